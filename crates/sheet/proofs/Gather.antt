-- What a loop over the places gathers: one place more.
-- Assumes nothing.
use mathlib.Core.Path.{◌≡◌, sym, ap, ◌∙◌}
use mathlib.Core.Bool.{Bool, true, false, not}
use mathlib.Core.List.{List}
use mathlib.Core.Logic.{inl, inr}
use lib.ListN.{length, get_or}
use mathlib.Core.List.{[], ◌∷◌}
use Rattle.std.specs.List.{fold}
use Prim.Native.Nat.{ℕ, zero, suc, ◌+◌, ◌<◌, ◌≤◌, max}
use native.Mathlib.Omega.{arith}
use borrow.Author.Tests.{not-false}
use Rattle.flow.specs.Net.{on, sum, number}
use Rattle.flow.proofs.Sum.{test, sum_next, on_true, on_false, sum_ones, sum_mono, sum_at_least}
use Rattle.flow.proofs.Bound.{on_le}
use Rattle.sheet.specs.Sheet.{code_at, CodeOk}
use Rattle.sheet.specs.Compass.{is_code}
use Rattle.sheet.specs.Leaves.{bad_at}
use Rattle.sheet.specs.Totals.{greatest_below}
use Rattle.sheet.proofs.Dest.{code_read}

-- a place that passes the test, and one that does not
module _ (passes : ℕ → Bool) (i : ℕ) {n : ℕ} (so_far : n ≡ number i passes) where
  pub one_more : passes i ≡ true → n + 1 ≡ number (i + 1) passes
  one_more e = omega (arith, sum_next i (λ q. on (passes q) 1), on_true 1 e)

  pub none_more : passes i ≡ false → n ≡ number (i + 1) passes
  none_more e = omega (arith, sum_next i (λ q. on (passes q) 1), on_false 1 e)

-- no more places pass than there are
pub number_le : (n : ℕ) (passes : ℕ → Bool) → number n passes ≤ n
number_le n passes =
    let m : number n passes ≤ sum n (λ q. 1) = sum_mono (λ q l. on_le (passes q) 1) in
    omega (arith, sum_ones n)

-- no place passes a test that none passes
pub number_none : (n : ℕ) (passes : ℕ → Bool) → number n passes ≡ 0 → (p : ℕ) → p < n → passes p ≡ false
number_none n passes e p l = elim (test (passes p)) [
  | inl t ↦ absurd (omega (arith, sum_at_least n p (λ q. on (passes q) 1) l, on_true 1 t))
  | inr t ↦ t
]

-- the greatest of n + 1 numbers is the first, or the greatest of those behind it
greatest_first : (n : ℕ) (f : ℕ → ℕ) → greatest_below (suc n) f ≡ max (f 0) (greatest_below n (λ k. f (suc k)))
unfolding greatest_below
greatest_first zero f = grind arith
greatest_first (suc n) f = let more = greatest_first n f in grind arith

-- the greatest item of a list, or a where that is greater, is the greatest below its length
greatest_items : (a : ℕ) (xs : List ℕ) → fold (λ m x. max m x) a xs ≡ max a (greatest_below (length xs) (λ i. get_or xs i 0))
unfolding greatest_below
greatest_items a [] = grind arith
greatest_items a (x ∷ xs) =
    let first = greatest_first (length xs) (λ i. get_or (x ∷ xs) i 0) in
    let more = greatest_items (max a x) xs in
    grind arith

pub greatest_of : (xs : List ℕ) → fold (λ m x. max m x) 0 xs ≡ greatest_below (length xs) (λ i. get_or xs i 0)
greatest_of xs = let e = greatest_items 0 xs in grind arith

-- ---- bad codes

pub bad_read : (g : List ℕ) (p : ℕ) {b : Bool} → p < length g → b ≡ is_code (get_or g p 0) → bad_at g p ≡ not b
unfolding bad_at
bad_read g p l e = ap (λ x. not (is_code x)) (sym (code_read g p l)) ∙ ap not (sym e)

pub none_bad : (g : List ℕ) → number (length g) (bad_at g) ≡ 0 → (p : ℕ) → p < length g → CodeOk g p
unfolding bad_at
none_bad g e p l = not-false (is_code (code_at g p)) (number_none (length g) (bad_at g) e p l)
