-- A coordinate moved by -1, 0 or 1, as natural numbers: with `lift d`, which is one more than d, no sum falls below zero.
-- Assumes nothing.
use mathlib.Core.Path.{◌≡◌, refl, ap, ◌∙◌}
use mathlib.Core.Bool.{true, false, cond}
use Prim.Native.Nat.{ℕ, zero, suc, ◌+◌, ◌-◌, ◌*◌, ◌/◌, ◌%◌, ◌<◌, ◌≤◌}
use native.Mathlib.Omega.{arith}
use lib.Dec.{T, leb, ltb, leb→le}
use lib.IntN.{ℤ, pos, negsuc, ◌+ℤ◌}
use mir.Syntax.{w32}
use mir.Val.{to_z, of_z}
use mir.Facts.{to_z_pos}
use borrow.Author.Tests.{le-ltb, le-leb}
use Rattle.sheet.specs.Leaves.{small, lift}
use Rattle.sheet.specs.Shape.{within}
use Rattle.sheet.specs.Sheet.{inside, coordinate, step_from}
use Rattle.sheet.specs.Compass.{step_at, step_of, line_of, is_arrow}
use Rattle.sheet.proofs.Table.{below8, arrow_line}
use Rattle.sheet.proofs.Places.{row_of, col_of}

pub lift_small : (d : ℤ) → T (small d) → lift d ≤ 2
lift_small (pos n) t = let h = leb→le n 1 t in omega arith
lift_small (negsuc n) t = omega arith

-- what holds at -1, 0 and 1 holds at a small number
pub small_cases : (P : ℤ → Type 0) → P (negsuc 0) → P (pos 0) → P (pos 1) → (d : ℤ) → T (small d) → P d
small_cases P a b c (pos zero) t = b
small_cases P a b c (pos (suc zero)) t = c
small_cases P a b c (pos (suc (suc n))) t = let h = leb→le (suc (suc n)) 1 t in absurd (omega arith)
small_cases P a b c (negsuc zero) t = a
small_cases P a b c (negsuc (suc n)) t = let h = leb→le (suc n) 0 t in absurd (omega arith)

-- one more than x, less one
pub less_one : (x : ℕ) → pos (x + 1) +ℤ negsuc 0 ≡ pos x
less_one x = simp (le-ltb (x + 1) 1 (omega arith)) (ap pos (omega arith))

-- the 32-bit sum of x, 1 and d
pub sum_is : (x : ℕ) (d : ℤ) → x < 4096 → T (small d) → to_z w32 (of_z w32 (to_z w32 x +ℤ pos 1)) +ℤ to_z w32 (of_z w32 d) ≡ pos (x + lift d)
sum_is x d h t =
    rw (to_z_pos w32 {n = x} (omega arith), to_z_pos w32 {n = x + 1} (omega arith))
    (small_cases (λ d. pos (x + 1) +ℤ to_z w32 (of_z w32 d) ≡ pos (x + lift d))
    (less_one x ∙ ap pos (omega arith)) (ap pos (omega arith)) (ap pos (omega arith)) d t)

-- the definitions' test and number, by `lift`
within_suc : (m a most : ℕ) → suc m ≡ a → ltb m most ≡ within a most
unfolding within
within_suc m a most e = simp (le-leb 1 a (omega arith)) (ap (λ n. leb n most) e)

inside_less : (most x : ℕ) → inside most (pos x +ℤ negsuc 0) ≡ within (x + 0) most
unfolding within
inside_less most zero = refl
inside_less most (suc x) = simp (le-ltb (suc x) 1 (omega arith)) (within_suc (suc x - 1) (suc x + 0) most (omega arith))

pub inside_lift : (most x : ℕ) (d : ℤ) → T (small d) → inside most (pos x +ℤ d) ≡ within (x + lift d) most
inside_lift most x d t =
    small_cases (λ d. inside most (pos x +ℤ d) ≡ within (x + lift d) most)
    (inside_less most x) (within_suc (x + 0) (x + 1) most (omega arith)) (within_suc (x + 1) (x + 2) most (omega arith)) d t

number_less : (x : ℕ) → coordinate (pos x +ℤ negsuc 0) ≡ x + 0 - 1
number_less zero = refl
number_less (suc x) = simp (le-ltb (suc x) 1 (omega arith)) (omega arith)

pub number_lift : (x : ℕ) (d : ℤ) → T (small d) → coordinate (pos x +ℤ d) ≡ x + lift d - 1
number_lift x d t =
    small_cases (λ d. coordinate (pos x +ℤ d) ≡ x + lift d - 1) (number_less x) (omega arith) (omega arith) d t

-- the steps of the table are small
pub row_small : (k : ℕ) → k < 8 → T (small (step_at k).1)
row_small = below8 (λ k. T (small (step_at k).1)) tt tt tt tt tt tt tt tt

pub col_small : (k : ℕ) → k < 8 → T (small (step_at k).2)
col_small = below8 (λ k. T (small (step_at k).2)) tt tt tt tt tt tt tt tt

-- and come back from their bits
pub row_back : (k : ℕ) → k < 8 → to_z w32 (of_z w32 (step_at k).1) ≡ (step_at k).1
row_back = below8 (λ k. to_z w32 (of_z w32 (step_at k).1) ≡ (step_at k).1) refl refl refl refl refl refl refl refl

pub col_back : (k : ℕ) → k < 8 → to_z w32 (of_z w32 (step_at k).2) ≡ (step_at k).2
col_back = below8 (λ k. to_z w32 (of_z w32 (step_at k).2) ≡ (step_at k).2) refl refl refl refl refl refl refl refl

-- the row and the column one step from p, each with one added
abbrev pub down : ℕ → ℕ → ℕ → ℕ
down cols k p = p / cols + lift (step_at k).1

abbrev pub right : ℕ → ℕ → ℕ → ℕ
right cols k p = p % cols + lift (step_at k).2

-- a step, with natural numbers only
pub step_is : (rows cols k p : ℕ) → k < 8
    → step_from rows cols (step_at k) p
    ≡ cond (within (down cols k p) rows) (cond (within (right cols k p) cols) ((down cols k p - 1) * cols + (right cols k p - 1)) (rows * cols)) (rows * cols)
unfolding step_from
step_is rows cols k p h =
    simp (
      inside_lift rows (p / cols) (step_at k).1 (row_small k h),
      inside_lift cols (p % cols) (step_at k).2 (col_small k h),
      number_lift (p / cols) (step_at k).1 (row_small k h),
      number_lift (p % cols) (step_at k).2 (col_small k h),
    )

-- ---- the step of an arrow, from a row and a column

module _ (x : ℕ) (a : is_arrow x ≡ true) where
  -- it is small, and comes back from its bits
  pub arrow_row : (to_z w32 (of_z w32 (step_of x).1) ≡ (step_of x).1) × T (small (step_of x).1)
  unfolding step_of
  arrow_row = (row_back (line_of x) (arrow_line x a), row_small (line_of x) (arrow_line x a))

  pub arrow_col : (to_z w32 (of_z w32 (step_of x).2) ≡ (step_of x).2) × T (small (step_of x).2)
  unfolding step_of
  arrow_col = (col_back (line_of x) (arrow_line x a), col_small (line_of x) (arrow_line x a))

module _ (rows cols r c : ℕ) (x : ℕ) {D : ℕ} (a : is_arrow x ≡ true) (l : c < cols) (d : D ≡ r + lift (step_of x).1) where
  from_cell : step_from rows cols (step_of x) (r * cols + c)
      ≡ cond (within D rows) (cond (within (c + lift (step_of x).2) cols) ((D - 1) * cols + (c + lift (step_of x).2 - 1)) (rows * cols)) (rows * cols)
  unfolding step_of
  from_cell = rw (step_is rows cols (line_of x) (r * cols + c) (arrow_line x a), row_of cols r c l, col_of cols r c l, ← d)

  -- each way through the code that computes it, from its row D and its column R, each with one added
  pub step_off_rows : within D rows ≡ false → rows * cols ≡ step_from rows cols (step_of x) (r * cols + c)
  step_off_rows t = rw (from_cell, t)

  pub step_off_cols : {R : ℕ} → R ≡ c + lift (step_of x).2 → within D rows ≡ true → within R cols ≡ false → rows * cols ≡ step_from rows cols (step_of x) (r * cols + c)
  step_off_cols e t u = rw (from_cell, ← e, t, u)

  pub step_on : {R : ℕ} → R ≡ c + lift (step_of x).2 → within D rows ≡ true → within R cols ≡ true → (D - 1) * cols + (R - 1) ≡ step_from rows cols (step_of x) (r * cols + c)
  step_on e t u = rw (from_cell, ← e, t, u)
