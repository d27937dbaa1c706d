-- Ways: an arrow that crosses the tile's edge stands on the border, and its cell is its own way.
-- Assumes nothing.
use mathlib.Core.Path.{◌≡◌, refl, sym, ap, ◌∙◌}
use mathlib.Core.Bool.{Bool, true, false, not, ◌&&◌, true≢false}
use mathlib.Core.List.{List}
use mathlib.Core.Logic.{inl, inr}
use lib.ListN.{length}
use Prim.Native.Nat.{ℕ, ◌-◌, ◌*◌, ◌/◌, ◌%◌, ◌≤◌, ◌<◌}
use native.Mathlib.Omega.{arith}
use native.Mathlib.Nat.{mod-lt, div-lt_iff_lt-mul}
use lib.Dec.{ltb}
use borrow.Author.Tests.{ltb-false, lt-ltb, le-ltb}
use Rattle.flow.proofs.Last.{last_past, last_end}
use Rattle.flow.proofs.Sum.{test}
use Rattle.sheet.specs.Compass.{step_at, step_of, line_of, is_arrow}
use Rattle.sheet.specs.Sheet.{code_at, land_at, step_from, dest_of, SheetNoLoop}
use Rattle.sheet.proofs.Dest.{dest_land, dest_out, dest_beyond}
use Rattle.sheet.proofs.Places.{cols_pos, place_lt, true_within}
use Rattle.sheet.proofs.Signed.{down, right, step_is, lift_small, row_small, col_small}
use Rattle.sheet.proofs.Table.{arrow_line}
use Rattle.tile.specs.Border.{on_border, border_cells, border_number, border_place}
use Rattle.tile.specs.Way.{crosses, last_cell, no_way, ends_inside, over, way_at}
use Rattle.tile.proofs.Borders.{number_below, number_place}
use Rattle.tile.proofs.Edge.{off_edge}

module _ (rows cols p : ℕ) (l : p < rows * cols) (off : on_border rows cols p ≡ false) where
  -- a step from a cell that is not on the border stays inside
  step_stays : (k : ℕ) → k < 8 → step_from rows cols (step_at k) p < rows * cols
  unfolding on_border
  step_stays k h =
      let z : 0 < cols = cols_pos rows cols p l in
      let r : p / cols < rows = (div-lt_iff_lt-mul z).1 l in
      let c : p % cols < cols = mod-lt p z in
      let (t, f, w, e) = off_edge rows cols (p / cols) (p % cols) off in
      let a = lift_small (step_at k).1 (row_small k h) in
      let b = lift_small (step_at k).2 (col_small k h) in
      rw (
        step_is rows cols k p h,
        true_within (down cols k p) rows (omega arith) (omega arith),
        true_within (right cols k p) cols (omega arith) (omega arith),
      ) (place_lt rows cols (down cols k p - 1) (right cols k p - 1) (omega arith) (omega arith))

  pub arrow_stays : (x : ℕ) → is_arrow x ≡ true → step_from rows cols (step_of x) p < rows * cols
  unfolding step_of
  arrow_stays x a = step_stays (line_of x) (arrow_line x a)

-- of two tests, what passing both tells
both : (a b : Bool) → (a && not b) ≡ true → (a ≡ true) × (b ≡ false)
both true false e = (refl, refl)
both true true e = absurd (true≢false (sym e))
both false b e = absurd (true≢false (sym e))

module _ (rows cols : ℕ) (g : List ℕ) where
  module _ (p : ℕ) where
    module _ (x : crosses rows cols g p ≡ true) where
      crosses_is : (land_at g p ≡ true) × (ltb (step_from rows cols (step_of (code_at g p)) p) (rows * cols) ≡ false)
      unfolding crosses
      crosses_is = both (land_at g p) (ltb (step_from rows cols (step_of (code_at g p)) p) (rows * cols)) x

      -- a cell whose arrow crosses the edge is land
      pub crosses_land : land_at g p ≡ true
      crosses_land = crosses_is.0

      -- its arrow steps outside the tile
      pub crosses_step : rows * cols ≤ step_from rows cols (step_of (code_at g p)) p
      crosses_step = ltb-false _ _ crosses_is.1

      -- it stands on the border
      pub crosses_border : p < rows * cols → on_border rows cols p ≡ true
      unfolding land_at
      crosses_border l =
          elim (test (on_border rows cols p)) [
            | inl e ↦ e
            | inr e ↦ absurd (omega (arith, crosses_step, arrow_stays rows cols p l e (code_at g p) crosses_land))
          ]

      -- and its path in the tile ends there
      pub crosses_ends : rows * cols ≤ dest_of rows cols g p
      crosses_ends =
          let q : ℕ = step_from rows cols (step_of (code_at g p)) p in
          elim (test (land_at g q)) [
            | inl u ↦ omega (arith, crosses_step, dest_land rows cols g p crosses_land refl u)
            | inr u ↦ omega (arith, dest_out rows cols g p crosses_land refl u)
          ]

      pub crosses_last : last_cell rows cols g p ≡ p
      unfolding last_cell
      crosses_last = last_past (rows * cols) (dest_of rows cols g) p crosses_ends

    -- a land cell whose arrow steps outside the tile crosses its edge
    pub steps_out : land_at g p ≡ true → rows * cols ≤ step_from rows cols (step_of (code_at g p)) p → crosses rows cols g p ≡ true
    unfolding crosses
    steps_out a l = rw (a, le-ltb _ _ l)

    -- and one whose arrow stays inside does not
    pub steps_in : step_from rows cols (step_of (code_at g p)) p < rows * cols → crosses rows cols g p ≡ false
    unfolding crosses
    steps_in l = elim (test (land_at g p)) [ inl a ↦ rw (a, lt-ltb _ _ l) | inr a ↦ rw a ]

    -- ---- each way through the definition

    pub way_absent : land_at g p ≡ false → way_at rows cols g p ≡ no_way
    unfolding way_at
    way_absent a = rw a

    pub way_inside : land_at g p ≡ true → crosses rows cols g (last_cell rows cols g p) ≡ false → way_at rows cols g p ≡ ends_inside
    unfolding way_at
    way_inside a x = rw (a, x)

    pub way_over : land_at g p ≡ true → crosses rows cols g (last_cell rows cols g p) ≡ true → way_at rows cols g p ≡ over rows cols g (last_cell rows cols g p)
    unfolding way_at
    way_over a x = rw (a, x)

    -- a cell that crosses is its own way: its own number and its own code
    pub way_itself : crosses rows cols g p ≡ true → way_at rows cols g p ≡ over rows cols g p
    way_itself x =
        way_over (crosses_land x) (ap (crosses rows cols g) (crosses_last x) ∙ x) ∙ ap (over rows cols g) (crosses_last x)

  -- ---- in a tile without loops

  module _ (long : length g ≡ rows * cols) (free : SheetNoLoop rows cols g) (p : ℕ) (l : p < rows * cols) where
    -- the last cell is a cell of the tile
    pub last_in_lem : last_cell rows cols g p < rows * cols
    unfolding last_cell
    last_in_lem = (last_end (rows * cols) (dest_of rows cols g) (dest_beyond rows cols g long) free p l).2

    module _ (x : crosses rows cols g (last_cell rows cols g p) ≡ true) where
      -- a way over the edge names a border cell
      pub way_number : border_number rows cols (last_cell rows cols g p) < border_cells rows cols
      way_number = number_below rows cols (last_cell rows cols g p) last_in_lem (crosses_border (last_cell rows cols g p) x last_in_lem)

      -- which is the last cell
      pub way_place : border_place rows cols (border_number rows cols (last_cell rows cols g p)) ≡ last_cell rows cols g p
      way_place = number_place rows cols (last_cell rows cols g p) last_in_lem (crosses_border (last_cell rows cols g p) x last_in_lem)

      -- and has the same way for itself
      pub way_same : land_at g p ≡ true → way_at rows cols g (last_cell rows cols g p) ≡ way_at rows cols g p
      way_same a = way_itself (last_cell rows cols g p) x ∙ sym (way_over p a x)
