-- The count in words: the weight of the cells whose water passes. Assumes nothing.
use mathlib.Core.Path.{◌≡◌, sym, ap, ◌∙◌}
use mathlib.Core.Bool.{false, ◌||◌}
use mathlib.Core.Logic.{inl, inr}
use Prim.Native.Nat.{ℕ, zero, suc, ◌+◌, ◌≤◌, ◌<◌}
use native.Mathlib.Omega.{arith}
use lib.Dec.{eqb}
use borrow.Author.Tests.{eqb-true}
use Rattle.flow.specs.Net.{on, sum, steps, Counts, NoLoop, down_in, downb}
use Rattle.flow.proofs.Sum.{test, on_ne, on_false, sum_ext, sum_suc, sum_swap, sum_first}
use Rattle.flow.proofs.Walk.{leaves, down_in_says}
use Rattle.flow.proofs.Through.{level, through}
use Rattle.flow.proofs.Count.{counts_through}

module _ (n : ℕ) (to : ℕ → ℕ) (out : (p : ℕ) → n ≤ p → n ≤ to p) (free : NoLoop n to) where
  not_down : (k p q : ℕ) → p < n → q ≡ p → down_in to k q p ≡ false
  not_down k p q l e =
      elim (test (down_in to k q p)) [
        | inl t ↦ (let (i, li, s) = down_in_says to k q p t in absurd (free p l (i, ap (steps to (suc i)) (sym e) ∙ s)))
        | inr t ↦ t
      ]

  -- where p lies ahead of itself nowhere, the steps at which q comes to p are at most one
  pub visits : (x p : ℕ) → p < n → (k q : ℕ) → sum (suc k) (λ i. on (eqb (steps to i q) p) x) ≡ on (eqb q p || down_in to k q p) x
  unfolding sum steps down_in
  visits x p l zero q = elim (test (eqb q p)) [ inl t ↦ rw t (omega arith) | inr t ↦ rw t (omega arith) ]
  visits x p l (suc k) q =
      sum_first (suc k) (λ i. on (eqb (steps to i q) p) x)
      ∙ ap (λ (y : ℕ). on (eqb q p) x + y) (visits x p l k (to q))
      ∙ elim (test (eqb q p)) [
        | inl t ↦ rw t (omega (arith, on_false x (not_down (suc k) p q l (eqb-true q p t))))
        | inr t ↦ rw t (omega arith)
      ]

  -- what comes to p in any number of steps is the weight of p and of the cells that p is downstream of
  pub through_passes : (w : ℕ → ℕ) (p : ℕ) → p < n → through n to w p ≡ sum n (λ q. on (eqb q p || downb n to q p) (w q))
  unfolding through level downb
  through_passes w p l =
      sum_swap n n (λ k q. on (eqb (steps to k q) p) (w q))
      ∙ sum_ext (λ q lq. omega (arith, visits (w q) p l n q, sum_suc n (λ i. on (eqb (steps to i q) p) (w q)), on_ne (steps to n q) p (w q) (λ e. omega (arith, leaves n to out free q))))

  -- the count of p is the weight of p and of the cells that p is downstream of
  pub counts_passes : (w c : ℕ → ℕ) → Counts n to w c → (p : ℕ) → p < n → c p ≡ sum n (λ q. on (eqb q p || downb n to q p) (w q))
  counts_passes w c eq p l = counts_through n to out free w c eq p l ∙ through_passes w p l
