-- The step of an arrow on a sheet and in a tile, by natural numbers: from row r and column c to row r + u - 1 and column c + v - 1.
-- Assumes nothing.
use mathlib.Core.Path.{◌≡◌, refl, sym, ap, ◌∙◌}
use mathlib.Core.Bool.{true}
use mathlib.Core.Logic.{◌⊎◌, inl, inr}
use Prim.Native.Nat.{ℕ, suc, ◌+◌, ◌-◌, ◌*◌, ◌/◌, ◌%◌, ◌≤◌, ◌<◌}
use native.Mathlib.Omega.{arith}
use Rattle.flow.proofs.Sum.{test}
use Rattle.sheet.specs.Compass.{is_arrow, step_of}
use Rattle.sheet.specs.Leaves.{lift}
use Rattle.sheet.specs.Shape.{within}
use Rattle.sheet.specs.Sheet.{step_from}
use Rattle.sheet.proofs.Places.{place_lt, within_true, true_within}
use Rattle.sheet.proofs.Signed.{lift_small, arrow_row, arrow_col, step_on, step_off_rows, step_off_cols}
use Rattle.tile.specs.Border.{on_border}
use Rattle.tile.proofs.Edge.{edge_top, edge_foot, edge_left, edge_right}
use Rattle.mosaic.proofs.Pieces.{col_in, spot_is}

-- a step's row and column, each with one added
abbrev pub down : ℕ → ℕ
down a = lift (step_of a).1

abbrev pub right : ℕ → ℕ
right a = lift (step_of a).2

-- from row r and column c the step of u and v stays on the sheet
pub record Inside (rows cols r c u v : ℕ) : Type 0 where
  pub north : 1 ≤ r + u
  pub south : r + u ≤ rows
  pub west : 1 ≤ c + v
  pub east : c + v ≤ cols

-- a cell in the first or last row or column is a border cell
pub edge_on : (rows cols x : ℕ) → ((x / cols ≡ 0) ⊎ (suc (x / cols) ≡ rows)) ⊎ ((x % cols ≡ 0) ⊎ (suc (x % cols) ≡ cols)) → on_border rows cols x ≡ true
unfolding on_border
edge_on rows cols x (inl (inl e)) = edge_top rows cols (x / cols) (x % cols) e
edge_on rows cols x (inl (inr e)) = edge_foot rows cols (x / cols) (x % cols) e
edge_on rows cols x (inr (inl e)) = edge_left rows cols (x / cols) (x % cols) e
edge_on rows cols x (inr (inr e)) = edge_right rows cols (x / cols) (x % cols) e

module _ (a : ℕ) (arrow : is_arrow a ≡ true) where
  pub down_most : down a ≤ 2
  down_most = lift_small (step_of a).1 (arrow_row a arrow).1

  pub right_most : right a ≤ 2
  right_most = lift_small (step_of a).2 (arrow_col a arrow).1

  module _ (rows cols r c : ℕ) (lc : c < cols) where
    pub step_inside : Inside rows cols r c (down a) (right a) → step_from rows cols (step_of a) (r * cols + c) ≡ (r + down a - 1) * cols + (c + right a - 1)
    step_inside i =
        sym (step_on rows cols r c a arrow lc refl refl (true_within (r + down a) rows i.north i.south) (true_within (c + right a) cols i.west i.east))

    -- a step that leaves the sheet leads to none
    pub step_outside : (Inside rows cols r c (down a) (right a) → ⊥) → step_from rows cols (step_of a) (r * cols + c) ≡ rows * cols
    step_outside out =
        elim (test (within (r + down a) rows)) [
          | inl s ↦ elim (test (within (c + right a) cols)) [
            | inl t ↦
                let (n, m) = within_true (r + down a) rows s in
                let (w, e) = within_true (c + right a) cols t in
                absurd (out (record { north = n; south = m; west = w; east = e }))
            | inr t ↦ sym (step_off_cols rows cols r c a arrow lc refl refl s t)
          ]
          | inr s ↦ sym (step_off_rows rows cols r c a arrow lc refl s)
        ]

    pub step_says : step_from rows cols (step_of a) (r * cols + c) < rows * cols → Inside rows cols r c (down a) (right a)
    step_says l =
        elim (test (within (r + down a) rows)) [
          | inl s ↦ elim (test (within (c + right a) cols)) [
            | inl t ↦
                let (n, m) = within_true (r + down a) rows s in
                let (w, e) = within_true (c + right a) cols t in
                record { north = n; south = m; west = w; east = e }
            | inr t ↦ absurd (omega (arith, step_off_cols rows cols r c a arrow lc refl refl s t))
          ]
          | inr s ↦ absurd (omega (arith, step_off_rows rows cols r c a arrow lc refl s))
        ]

  -- the same from place x
  module _ (rows cols x : ℕ) (lx : x < rows * cols) where
    pub place_inside : Inside rows cols (x / cols) (x % cols) (down a) (right a) → step_from rows cols (step_of a) x ≡ (x / cols + down a - 1) * cols + (x % cols + right a - 1)
    place_inside i = ap (step_from rows cols (step_of a)) (sym (spot_is cols x)) ∙ step_inside rows cols (x / cols) (x % cols) (col_in rows cols x lx) i

    pub place_says : step_from rows cols (step_of a) x < rows * cols → Inside rows cols (x / cols) (x % cols) (down a) (right a)
    place_says l = step_says rows cols (x / cols) (x % cols) (col_in rows cols x lx) (rw (spot_is cols x) l)

    pub place_lands : Inside rows cols (x / cols) (x % cols) (down a) (right a) → step_from rows cols (step_of a) x < rows * cols
    place_lands i = rw (place_inside i) (place_lt rows cols _ _ (omega (arith, i.north, i.south)) (omega (arith, i.west, i.east)))
