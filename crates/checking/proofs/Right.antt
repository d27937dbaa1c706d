-- The test of one cell: what it says, and a law for each way through the code that makes it.
-- Assumes nothing.
use mathlib.Core.Bool.{true, false, true≢false}
use mathlib.Core.List.{List}
use mathlib.Core.Path.{◌≡◌, sym, ap, ◌∙◌}
use Prim.Native.Nat.{ℕ, ◌+◌, ◌*◌, ◌<◌}
use native.Mathlib.Omega.{arith}
use lib.Dec.{eqb}
use lib.ListN.{get_or}
use borrow.Author.Count.{below_more}
use borrow.Author.Tests.{eqb-true, eq-eqb}
use Rattle.flow.specs.Net.{given}
use Rattle.flow.proofs.Sum.{on_true, on_false}
use Rattle.sheet.specs.Sheet.{land_at, dest_of, unit, count_at}
use Rattle.sheet.proofs.Given.{given_absent}
use Rattle.sheet.specs.declared.grid.Grid.{Grid}
use Rattle.checking.specs.Check.{CountOk}
use Rattle.checking.specs.Leaf.{RightBelow, CountOkIn, right_at}

module _ (rows cols : ℕ) (g c : List ℕ) (p : ℕ) where
  -- the test says what it should
  pub right_says : right_at rows cols g c p ≡ true → CountOk rows cols g c p
  unfolding right_at
  right_says e = eqb-true _ _ e

  pub wrong_says : right_at rows cols g c p ≡ false → CountOk rows cols g c p → ⊥
  unfolding right_at
  wrong_says e h = true≢false (sym (eq-eqb _ _ h) ∙ e)

  -- a land cell is held to 1 more than its givers' counts, an absent cell to 0
  pub right_land : {s : ℕ} → land_at g p ≡ true → s ≡ given (rows * cols) (dest_of rows cols g) (count_at c) p → eqb (get_or c p 0) (s + 1) ≡ right_at rows cols g c p
  unfolding right_at
  right_land {s} t e =
      let own : s + 1 ≡ unit g p + given (rows * cols) (dest_of rows cols g) (count_at c) p = omega (arith, on_true 1 t) in
      ap (eqb (count_at c p)) own

  pub right_absent : p < rows * cols → land_at g p ≡ false → eqb (get_or c p 0) 0 ≡ right_at rows cols g c p
  unfolding right_at
  right_absent l t =
      let none : 0 ≡ unit g p + given (rows * cols) (dest_of rows cols g) (count_at c) p = omega (arith, on_false 1 t, given_absent rows cols g (count_at c) p l t) in
      ap (eqb (count_at c p)) none

-- ---- row by row

-- one place more is right
pub right_more : (g : Grid) (c : List ℕ) (k : ℕ) {m : ℕ} → m ≡ k + 1 → RightBelow g c k → CountOkIn g c k → RightBelow g c m
right_more g c k e below here q l = below_more _ _ below here q (omega arith)
