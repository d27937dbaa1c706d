-- Where the water of a cell goes, as a spot: for each way through the code that computes it.
-- Assumes nothing.
use mathlib.Core.Bool.{true, false}
use mathlib.Core.List.{List}
use mathlib.Core.Path.{◌≡◌, refl, sym, ap, ◌∙◌}
use Prim.Native.Nat.{ℕ, ◌+◌, ◌*◌, ◌<◌}
use native.Mathlib.Omega.{arith}
use lib.ListN.{length, get_or}
use Rattle.sheet.specs.Compass.{is_arrow, step_of}
use Rattle.sheet.specs.Leaves.{Cell, SpotIs}
use Rattle.sheet.specs.Sheet.{land_at, step_from, dest_of}
use Rattle.sheet.specs.declared.step.Spot.{Spot}
use Rattle.sheet.proofs.Dest.{land_read, no_land, read_absent, read_land, read_out}
use Rattle.sheet.proofs.Spots.{cell_below, spot_cell, spot_same}

module _ (rows cols : ℕ) (g : List ℕ) (r c : ℕ) (cell : Cell rows cols r c) (long : length g ≡ rows * cols) where
  there : r * cols + c < length g
  there = omega (arith, cell_below cell)

  pub at_absent : is_arrow (get_or g (r * cols + c) 0) ≡ false → dest_of rows cols g (r * cols + c) ≡ rows * cols
  at_absent e = sym (read_absent rows cols g (r * cols + c) there e)

  module _ (t : is_arrow (get_or g (r * cols + c) 0) ≡ true) where
    module _ (s : Spot) (at : SpotIs rows cols s (step_from rows cols (step_of (get_or g (r * cols + c) 0)) (r * cols + c))) where
      land_at_lem : land_at g (step_from rows cols (step_of (get_or g (r * cols + c) 0)) (r * cols + c)) ≡ is_arrow (get_or g (s.row * cols + s.col) 0)
      land_at_lem =
          ap (land_at g) (sym at.place_is)
          ∙ sym (land_read g (s.row * cols + s.col) (omega (arith, cell_below (spot_cell at cell.rows_fit cell.cols_fit))))

      pub at_land : is_arrow (get_or g (s.row * cols + s.col) 0) ≡ true → SpotIs rows cols s (dest_of rows cols g (r * cols + c))
      at_land e = spot_same at (read_land rows cols g (r * cols + c) there t refl (land_at_lem ∙ e))

      pub at_gap : is_arrow (get_or g (s.row * cols + s.col) 0) ≡ false → dest_of rows cols g (r * cols + c) ≡ rows * cols
      at_gap e = sym (read_out rows cols g (r * cols + c) there t refl (land_at_lem ∙ e))

    pub at_edge : step_from rows cols (step_of (get_or g (r * cols + c) 0)) (r * cols + c) ≡ rows * cols → dest_of rows cols g (r * cols + c) ≡ rows * cols
    at_edge e = sym (read_out rows cols g (r * cols + c) there t refl (ap (land_at g) e ∙ no_land g (rows * cols) (omega arith)))
