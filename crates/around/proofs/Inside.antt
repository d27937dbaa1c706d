-- Inside the sheet's edge the eight neighbours stand at fixed distances.
-- Assumes nothing.
use mathlib.Core.Path.{◌≡◌, ap}
use mathlib.Core.List.{List}
use Prim.Native.Nat.{ℕ, zero, suc, ◌+◌, ◌-◌, ◌*◌, ◌/◌, ◌%◌, ◌<◌, ◌≤◌}
use native.Mathlib.Omega.{arith}
use native.Mathlib.Nat.{div-add-mod', mul-le-mul_right, suc-mul}
use native.Mathlib.Numerals.{add-one}
use Rattle.sheet.specs.Compass.{step_at}
use Rattle.sheet.specs.Leaves.{Place, Cell, lift}
use Rattle.around.specs.Around.{Inner, opposite, comes_from, adds, term}
use Rattle.sheet.proofs.Signed.{step_is, row_small, col_small, lift_small}
use Rattle.sheet.proofs.Places.{place_lt, true_within, row_of, col_of}
use Rattle.around.proofs.Bridge.{opposite_lt}
use Rattle.sheet.proofs.Spots.{cell_place}

-- the rows before, at and after row r
rows_around : (cols r : ℕ) → 1 ≤ r → ((r + 0 - 1) * cols + cols ≡ r * cols) × ((r + 1 - 1) * cols ≡ r * cols) × ((r + 2 - 1) * cols ≡ r * cols + cols)
rows_around cols (suc n) h =
    let a : suc n + 0 - 1 ≡ n = omega arith in
    let b : suc n + 1 - 1 ≡ suc n = omega arith in
    let c : suc n + 2 - 1 ≡ suc (suc n) = omega arith in
    (rw a (omega (arith, suc-mul n cols)), rw b, rw c (suc-mul (suc n) cols))
rows_around cols zero h = absurd (omega arith)

-- p's four sides make it an inner place
pub inner_place : {rows cols p : ℕ} → Place rows cols p → 1 ≤ p / cols → p / cols + 1 < rows → 1 ≤ p % cols → p % cols + 1 < cols → Inner rows cols p
inner_place {rows} {cols} {p} s t b l r =
    let w = div-add-mod' p cols in
    record {
      rows_fit = s.rows_fit;
      cols_fit = s.cols_fit;
      top = t;
      bottom = b;
      left = l;
      right = r;
      above = omega (arith, mul-le-mul_right cols t);
      below = omega (arith, place_lt rows cols (p / cols + 1) (p % cols + 1) b r, suc-mul (p / cols) cols, ap (λ n. n * cols) (add-one (p / cols)));
    }

-- the same of a row and a column
pub inner_cell : {rows cols r c : ℕ} → Cell rows cols r c → 1 ≤ r → r + 1 < rows → 1 ≤ c → c + 1 < cols → Inner rows cols (r * cols + c)
inner_cell {rows} {cols} {r} {c} s t b l h =
    let row = row_of cols r c s.col_in in
    let col = col_of cols r c s.col_in in
    inner_place (cell_place s) (omega arith) (omega arith) (omega arith) (omega arith)

module _ (rows cols : ℕ) (g : List ℕ) (w : ℕ → ℕ) (p : ℕ) (in_p : Inner rows cols p) where
  from_is : (j : ℕ) → comes_from rows cols p j ≡ (p / cols + lift (step_at (opposite j)).1 - 1) * cols + (p % cols + lift (step_at (opposite j)).2 - 1)
  from_is j =
      let a = lift_small (step_at (opposite j)).1 (row_small (opposite j) (opposite_lt j)) in
      let b = lift_small (step_at (opposite j)).2 (col_small (opposite j) (opposite_lt j)) in
      rw (
        step_is rows cols (opposite j) p (opposite_lt j),
        true_within (p / cols + lift (step_at (opposite j)).1) rows (omega arith) (omega arith),
        true_within (p % cols + lift (step_at (opposite j)).2) cols (omega arith) (omega arith),
      )

  seen_is : (j : ℕ) {q : ℕ} → q ≡ comes_from rows cols p j → adds g w q (step_at j).0 ≡ term rows cols g w p j
  unfolding term
  seen_is j e = rw e

  pub seen0 : adds g w (p - 1) 1 ≡ term rows cols g w p 0
  seen0 = seen_is 0 (omega (arith, from_is 0, rows_around cols (p / cols) in_p.top, div-add-mod' p cols))

  pub seen1 : adds g w (p - cols - 1) 2 ≡ term rows cols g w p 1
  seen1 = seen_is 1 (omega (arith, from_is 1, rows_around cols (p / cols) in_p.top, div-add-mod' p cols))

  pub seen2 : adds g w (p - cols) 4 ≡ term rows cols g w p 2
  seen2 = seen_is 2 (omega (arith, from_is 2, rows_around cols (p / cols) in_p.top, div-add-mod' p cols))

  pub seen3 : adds g w (p - cols + 1) 8 ≡ term rows cols g w p 3
  seen3 = seen_is 3 (omega (arith, from_is 3, rows_around cols (p / cols) in_p.top, div-add-mod' p cols))

  pub seen4 : adds g w (p + 1) 16 ≡ term rows cols g w p 4
  seen4 = seen_is 4 (omega (arith, from_is 4, rows_around cols (p / cols) in_p.top, div-add-mod' p cols))

  pub seen5 : adds g w (p + cols + 1) 32 ≡ term rows cols g w p 5
  seen5 = seen_is 5 (omega (arith, from_is 5, rows_around cols (p / cols) in_p.top, div-add-mod' p cols))

  pub seen6 : adds g w (p + cols) 64 ≡ term rows cols g w p 6
  seen6 = seen_is 6 (omega (arith, from_is 6, rows_around cols (p / cols) in_p.top, div-add-mod' p cols))

  pub seen7 : adds g w (p + cols - 1) 128 ≡ term rows cols g w p 7
  seen7 = seen_is 7 (omega (arith, from_is 7, rows_around cols (p / cols) in_p.top, div-add-mod' p cols))
