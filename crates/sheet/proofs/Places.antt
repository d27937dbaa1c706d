-- Rows, columns and places: what is not linear.
-- Assumes nothing.
use mathlib.Core.List.{List}
use mathlib.Core.Path.{◌≡◌, sym, ◌∙◌}
use lib.ListN.{length}
use Prim.Native.Nat.{ℕ, zero, suc, ◌+◌, ◌*◌, ◌/◌, ◌%◌, ◌<◌, ◌≤◌}
use native.Mathlib.Omega.{arith}
use native.Mathlib.Nat.{mul-zero, mod-lt, div-lt_iff_lt-mul, mul-le-mul, mul-le-mul_right, suc-mul, mul-add-div_right, mul-add-mod_self_right, div-eq_of_lt, mod-eq_of_lt}
use mathlib.Core.Bool.{Bool, true, false, false≢true}
use borrow.Author.Tests.{leb-true, le-leb}
use Rattle.sheet.specs.Shape.{Within, within}
use Rattle.sheet.specs.Leaves.{Place, Laid}

pub cols_pos : (rows cols p : ℕ) → p < rows * cols → 0 < cols
cols_pos rows zero p h = let h' = rw (mul-zero rows) at h in absurd (omega arith)
cols_pos rows (suc c) p h = omega arith

module _ {rows cols p : ℕ} (at : Place rows cols p) where
  pub some_cols : 0 < cols
  some_cols = cols_pos rows cols p at.below

  pub row_lt : p / cols < rows
  row_lt = (div-lt_iff_lt-mul some_cols).1 at.below

  pub col_lt : p % cols < cols
  col_lt = mod-lt p some_cols

  pub area : rows * cols ≤ 16777216
  area = mul-le-mul at.rows_fit at.cols_fit

-- a row and a column below the sides are a place
pub place_lt : (rows cols r c : ℕ) → r < rows → c < cols → r * cols + c < rows * cols
place_lt rows cols r c h l = omega (arith, mul-le-mul_right cols h, suc-mul r cols)

pub within_true : (n most : ℕ) → within n most ≡ true → (1 ≤ n) × (n ≤ most)
unfolding within
within_true zero most e = absurd (let z : ◌≡◌ {A = Bool} false true = e in false≢true z)
within_true (suc n) most e = (omega arith, leb-true (suc n) most (rw (le-leb 1 (suc n) (omega arith)) at e))

pub true_within : (n most : ℕ) → 1 ≤ n → n ≤ most → within n most ≡ true
unfolding within
true_within n most h l = simp (le-leb 1 n h) (le-leb n most l)

-- sides within the bounds, and what they come to
pub made : (most rows cols : ℕ) → within rows most ≡ true → within cols most ≡ true → Within most rows cols × (rows * cols ≤ most * most)
made most rows cols a b =
    let r = within_true rows most a in
    let c = within_true cols most b in
    (record { some_row = r.0; rows_most = r.1; some_col = c.0; cols_most = c.1 }, mul-le-mul r.1 c.1)

-- a number within the bounds is not outside them
pub outside : (n most : ℕ) → 1 ≤ n → n ≤ most → within n most ≡ false → ⊥
outside n most h l e = false≢true (sym e ∙ true_within n most h l)

-- a place taken apart
pub row_of : (cols r c : ℕ) → c < cols → (r * cols + c) / cols ≡ r
row_of cols r c h = mul-add-div_right {m = cols} (omega arith) r c ∙ (let z = div-eq_of_lt {n = c} {m = cols} h in omega arith)

pub col_of : (cols r c : ℕ) → c < cols → (r * cols + c) % cols ≡ c
col_of cols r c h = mul-add-mod_self_right r cols c ∙ mod-eq_of_lt h

-- ---- a sheet with its buffers

pub laid_area : {rows cols : ℕ} {g c : List ℕ} → Laid rows cols g c → rows * cols ≤ 16777216
laid_area s = mul-le-mul s.rows_fit s.cols_fit

-- a sheet or a tile of an allowed shape, with buffers of its length
pub laid_of : {most rows cols : ℕ} {g c : List ℕ} → Within most rows cols → most ≤ 4096 → length g ≡ rows * cols → length c ≡ rows * cols → Laid rows cols g c
laid_of s l a b = record { rows_fit = omega (arith, s.rows_most); cols_fit = omega (arith, s.cols_most); grid_long = a; counts_long = b }
