-- The border cell that an exit steps onto, from its tile, its row and its column: one law for each way through the code that computes it.
-- Assumes nothing.
use mathlib.Core.Path.{◌≡◌, sym, ap, ap₂, ◌∙◌}
use mathlib.Core.Bool.{true}
use Prim.Native.Nat.{ℕ, suc, ◌+◌, ◌*◌, ◌/◌, ◌%◌, ◌<◌}
use native.Mathlib.Omega.{arith}
use Rattle.sheet.specs.Compass.{is_arrow, step_of}
use Rattle.sheet.specs.Sheet.{step_from}
use Rattle.sheet.proofs.Places.{row_of, col_of}
use Rattle.mosaic.specs.Layout.{sheet_rows, sheet_cols, height_of, width_of, spot_at, sheet_place, borders_in, borders_before, all_borders, place_in, number_in_mosaic}
use Rattle.mosaic.specs.Join.{steps_onto, onto}
use Rattle.mosaic.proofs.Grid.{spot_place, spot_at_lem}
use Rattle.mosaic.proofs.Steps.{down, right}
use Rattle.mosaic.proofs.Borders.{border_at, of_below, of_at}
use Rattle.mosaic.proofs.Onto.{onto_is, onto_off}
use Rattle.mosaic.proofs.Neighbours.{Moved, spot_step, beside, off_north, off_south, off_west, off_east}

-- border cell b of tile t stands in row r and column c of its tile, and its way has the arrow a
module _ (I J : ℕ) (hs ws code : ℕ → ℕ) (t b r c a : ℕ) (lt : t < I * J) (lb : b < borders_in J hs ws t) (lr : r < height_of J hs t) (lc : c < width_of J ws t)
    (stands : r * width_of J ws t + c ≡ place_in J hs ws t b) (says : code (borders_before J hs ws t + b) ≡ a) (arrow : is_arrow a ≡ true) where
  stepped : steps_onto I J hs ws code (borders_before J hs ws t + b) ≡ step_from (sheet_rows I hs) (sheet_cols J ws) (step_of a) (spot_at J hs ws t r c)
  stepped =
      ap₂ (λ (x p : ℕ). step_from (sheet_rows I hs) (sheet_cols J ws) (step_of x) p) says
      (border_at I J hs ws t b lt lb ∙ ap (sheet_place I J hs ws t) (sym stands) ∙ spot_at_lem I J hs ws t r c lt lr lc)

  -- over its tile's edge, to row r' and column c' of tile s
  pub onto_neighbour : (s r' c' : ℕ) → s < I * J → (t ≡ s → ⊥) → Moved hs I (t / J) r (down a) (s / J) r' → Moved ws J (t % J) c (right a) (s % J) c'
      → onto I J hs ws code (borders_before J hs ws t + b) ≡ number_in_mosaic J hs ws s (r' * width_of J ws s + c')
  onto_neighbour s r' c' ls d m n =
      let ly = spot_place I J hs ws s r' c' ls m.number_in_lem n.number_in_lem in
      let ry : (r' * width_of J ws s + c') / width_of J ws s ≡ r' = row_of (width_of J ws s) r' c' n.number_in_lem in
      let cy : (r' * width_of J ws s + c') % width_of J ws s ≡ c' = col_of (width_of J ws s) r' c' n.number_in_lem in
      let edge = beside I J hs ws a arrow t s r c (r' * width_of J ws s + c') lt ls lr lc ly d (omega (arith, m.number_is)) (omega (arith, n.number_is)) in
      onto_is I J hs ws code (borders_before J hs ws t + b) (number_in_mosaic J hs ws s (r' * width_of J ws s + c')) (of_below I J hs ws s _ ls ly edge)
      (of_at I J hs ws s (r' * width_of J ws s + c') ls ly edge ∙ spot_at_lem I J hs ws s r' c' ls m.number_in_lem n.number_in_lem
      ∙ sym (spot_step I J hs ws a arrow t r c lt lr lc s r' c' m n) ∙ sym stepped)

  -- off the mosaic
  none : step_from (sheet_rows I hs) (sheet_cols J ws) (step_of a) (spot_at J hs ws t r c) ≡ sheet_rows I hs * sheet_cols J ws
      → onto I J hs ws code (borders_before J hs ws t + b) ≡ all_borders I J hs ws
  none e = onto_off I J hs ws code (borders_before J hs ws t + b) (omega (arith, stepped))

  pub onto_north : t / J ≡ 0 → r + down a ≡ 0 → onto I J hs ws code (borders_before J hs ws t + b) ≡ all_borders I J hs ws
  onto_north e z = none (off_north I J hs ws a arrow t r c lt lr lc e z)

  pub onto_south : suc (t / J) ≡ I → height_of J hs t < r + down a → onto I J hs ws code (borders_before J hs ws t + b) ≡ all_borders I J hs ws
  onto_south e z = none (off_south I J hs ws a arrow t r c lt lr lc e z)

  pub onto_west : t % J ≡ 0 → c + right a ≡ 0 → onto I J hs ws code (borders_before J hs ws t + b) ≡ all_borders I J hs ws
  onto_west e z = none (off_west I J hs ws a arrow t r c lt lr lc e z)

  pub onto_east : suc (t % J) ≡ J → width_of J ws t < c + right a → onto I J hs ws code (borders_before J hs ws t + b) ≡ all_borders I J hs ws
  onto_east e z = none (off_east I J hs ws a arrow t r c lt lr lc e z)
