-- Finishing in the paper's words: a finished cell holds its tile count and the incoming of the border cells at it or upstream of it.
-- Assumes nothing.
use mathlib.Core.Bool.{Bool, ◌||◌}
use mathlib.Core.List.{List}
use mathlib.Core.Logic.{inl, inr}
use mathlib.Core.Path.{◌≡◌, ap, ◌∙◌}
use Prim.Native.Nat.{ℕ, ◌+◌, ◌*◌, ◌<◌}
use lib.Dec.{eqb}
use lib.ListN.{length}
use Rattle.flow.specs.Net.{on, sum, downb}
use Rattle.flow.proofs.Finish.{finish_is}
use Rattle.flow.proofs.Part.{Places, sum_part}
use Rattle.flow.proofs.Sum.{test, sum_ext, on_zero}
use Rattle.sheet.specs.Sheet.{dest_of, unit, count_at, SheetCounts, SheetNoLoop}
use Rattle.sheet.proofs.Dest.{dest_beyond}
use Rattle.tile.specs.Border.{border_cells, border_number, border_place, on_border}
use Rattle.tile.proofs.Borders.{place_in_lem, place_once, number_below, number_place}
use Rattle.tile_finish.specs.Finish.{FinishedCounts, comes_at, at_or_above}
use Rattle.tile_finish.proofs.Laying.{comes_off, comes_place}
use Rattle.tile_finish.proofs.One.{finished_no_loop}

module _ (rows cols : ℕ) (grid incoming : List ℕ) where
  borders_placed : Places (border_cells rows cols) (rows * cols) (border_place rows cols)
  borders_placed = record { into = place_in_lem rows cols; once = place_once rows cols }

  -- a sum over the cells of what comes in is a sum over the border cells
  border_sum : (t : ℕ → Bool) → sum (rows * cols) (λ q. on (t q) (comes_at rows cols incoming q)) ≡ sum (border_cells rows cols) (λ b. on (t (border_place rows cols b)) (count_at incoming b))
  border_sum t =
      sum_part (border_cells rows cols) (rows * cols) (border_place rows cols) borders_placed (λ q. on (t q) (comes_at rows cols incoming q))
      (λ q l none. elim (test (on_border rows cols q)) [
        | inl e ↦ absurd (none (border_number rows cols q) (number_below rows cols q l e) (number_place rows cols q l e))
        | inr e ↦ ap (on (t q)) (comes_off rows cols incoming q e) ∙ on_zero (t q)
      ])
      ∙ sum_ext (λ b l. ap (on (t (border_place rows cols b))) (comes_place rows cols incoming b l))

  -- A FINISHED CELL HOLDS ITS TILE COUNT PLUS THE INCOMING OF THE BORDER CELLS AT IT OR UPSTREAM OF IT
  pub finished_in_words : length grid ≡ rows * cols → (tile finished : List ℕ) → SheetCounts rows cols grid tile → FinishedCounts rows cols grid incoming finished
      → (p : ℕ) → p < rows * cols → count_at finished p ≡ count_at tile p + sum (border_cells rows cols) (λ b. on (at_or_above rows cols grid p b) (count_at incoming b))
  finished_in_words long tile finished a b p l =
      let free : SheetNoLoop rows cols grid = finished_no_loop rows cols grid incoming long finished b in
      (finish_is (rows * cols) (dest_of rows cols grid) (dest_beyond rows cols grid long) free (unit grid) (comes_at rows cols incoming) (count_at tile) a (count_at finished)).0 b p l
      ∙ ap (λ (x : ℕ). count_at tile p + x) (border_sum (λ q. eqb q p || downb (rows * cols) (dest_of rows cols grid) q p))
