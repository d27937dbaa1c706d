-- Bounds and balances of counts. Assumes nothing.
use mathlib.Core.Path.{◌≡◌, sym, ap, ◌∙◌}
use mathlib.Core.Bool.{Bool, true, false, not, ◌||◌}
use mathlib.Core.Logic.{inl, inr}
use Prim.Native.Nat.{ℕ, ◌+◌, ◌≤◌, ◌<◌}
use native.Mathlib.Omega.{arith}
use lib.Dec.{eqb, ltb}
use borrow.Author.Tests.{lt-ltb, le-ltb}
use Rattle.flow.specs.Net.{on, sum, given, Counts, NoLoop, downb}
use Rattle.flow.proofs.Sum.{on_true, on_false, on_split, eqb_sym, sum_ext, sum_add, sum_mono, sum_swap, sum_delta, sum_delta_out}
use Rattle.flow.proofs.Walk.{below}
use Rattle.flow.proofs.Passes.{counts_passes}

-- a test takes away and adds nothing
pub on_le : (b : Bool) (x : ℕ) → on b x ≤ x
on_le true x = omega arith
on_le false x = omega arith

-- what all cells are given is what all cells with an arrow inside hold
given_total : (n : ℕ) (to c : ℕ → ℕ) → sum n (given n to c) ≡ sum n (λ q. on (ltb (to q) n) (c q))
unfolding given
given_total n to c =
    sum_swap n n (λ p q. on (eqb (to q) p) (c q))
    ∙ sum_ext (λ q l. sum_ext (λ p lp. ap (λ b. on b (c q)) (eqb_sym (to q) p)) ∙ elim (below (to q) n) [
      | inl h ↦ sum_delta n (to q) (λ p. c q) h ∙ sym (on_true (c q) (lt-ltb (to q) n h))
      | inr h ↦ sum_delta_out n (to q) (λ p. c q) h ∙ sym (on_false (c q) (le-ltb (to q) n h))
    ])

-- what leaves the net is all the weight
pub balance : (n : ℕ) (to w c : ℕ → ℕ) → Counts n to w c → sum n (λ p. on (not (ltb (to p) n)) (c p)) ≡ sum n w
balance n to w c h =
    let a : sum n c ≡ sum n w + sum n (given n to c) = sum_ext h ∙ sum_add n w (given n to c) in
    let b : sum n c ≡ sum n (λ p. on (ltb (to p) n) (c p)) + sum n (λ p. on (not (ltb (to p) n)) (c p)) =
    sum_ext (λ p l. on_split (ltb (to p) n) (c p)) ∙ sum_add n _ _ in
    omega (arith, given_total n to c)

module _ (n : ℕ) (to : ℕ → ℕ) (out : (p : ℕ) → n ≤ p → n ≤ to p) (free : NoLoop n to) where
  -- no count is more than all the weight
  pub counts_bound : (w c : ℕ → ℕ) → Counts n to w c → (p : ℕ) → p < n → c p ≤ sum n w
  counts_bound w c h p l =
      let m : sum n (λ q. on (eqb q p || downb n to q p) (w q)) ≤ sum n w = sum_mono (λ q lq. on_le (eqb q p || downb n to q p) (w q)) in
      omega (arith, counts_passes n to out free w c h p l)
