-- The length of a loop: the test that counts its cells says what it should, and walking round once counts them too.
-- Assumes nothing.
use mathlib.Core.Path.{◌≡◌, refl, sym, ap, ◌∙◌}
use mathlib.Core.Bool.{Bool, true, false, ◌&&◌, true≢false}
use mathlib.Core.Logic.{◌⊎◌, inl, inr, ◌↔◌}
use Prim.Native.Nat.{ℕ, suc, ◌≤◌, ◌<◌}
use native.Mathlib.Omega.{arith}
use lib.Dec.{eqb}
use Rattle.flow.specs.Net.{on, sum, steps, Down, downb, loop_length}
use Rattle.flow.proofs.Sum.{test, test_iff, eqb_sym, on_true, on_false, on_ne, sum_ext, sum_ones, sum_none, sum_swap, sum_delta}
use Rattle.flow.proofs.Walk.{inside_at, downb_iff}
use Rattle.flow.proofs.Loop.{down_trans}
use Rattle.flow.proofs.Round.{met, met_once}

and_iff : (a b : Bool) → (a && b ≡ true) ↔ ((a ≡ true) × (b ≡ true))
and_iff true b = (λ e. (refl, e), λ e. e.1)
and_iff false b = (λ e. absurd (true≢false (sym e)), λ e. e.0)

module _ (n : ℕ) (to : ℕ → ℕ) (out : (p : ℕ) → n ≤ p → n ≤ to p) where
  -- the test by which `loop_length` counts
  pub loop_length_says : (p q : ℕ) → p < n → q < n → (downb n to p q && downb n to q p ≡ true) ↔ (Down to p q × Down to q p)
  loop_length_says p q lp lq =
      let (a, b) = downb_iff n to out p q lq in
      let (c, d) = downb_iff n to out q p lp in
      let (e, f) = and_iff (downb n to p q) (downb n to q p) in
      (λ t. (a (e t).0, c (e t).1), λ h. f (b h.0, d h.1))

  -- a walk round that comes back after suc k steps and not before has gone over the whole loop
  pub round_length : (k p : ℕ) → p < n → steps to (suc k) p ≡ p → ((i : ℕ) → i < k → steps to (suc i) p ≡ p → ⊥) → loop_length n to p ≡ suc k
  unfolding loop_length
  round_length k p l back first =
      sum_ext (λ q lq. one q lq (test (downb n to p q && downb n to q p)))
      ∙ sum_swap n (suc k) (λ q i. on (eqb (steps to i p) q) 1)
      ∙ sum_ext (λ i li. sum_ext (λ q lq. ap (λ b. on b 1) (eqb_sym (steps to i p) q))
      ∙ sum_delta n (steps to i p) (λ q. 1) (inside_at n to out p (let h : i ≤ suc k = omega arith in h) (omega arith)))
      ∙ sum_ones (suc k)
    where
      one : (q : ℕ) → q < n → (downb n to p q && downb n to q p ≡ true) ⊎ (downb n to p q && downb n to q p ≡ false)
          → on (downb n to p q && downb n to q p) 1 ≡ sum (suc k) (λ i. on (eqb (steps to i p) q) 1)
      one q lq (inl t) = on_true 1 t ∙ sym (met_once to k p back first q ((loop_length_says p q l lq).0 t).0)
      one q lq (inr t) = on_false 1 t ∙ sym (sum_none (λ i li. on_ne (steps to i p) q 1
          (λ e. let (a, b) = met to k p back i li in
          true≢false (sym ((loop_length_says p q l lq).1 (rw e at a, rw e at b)) ∙ t))))

  -- each cell of a loop tells the same length
  pub same_length : (p q : ℕ) → p < n → q < n → Down to p q → Down to q p → loop_length n to p ≡ loop_length n to q
  unfolding loop_length
  same_length p q lp lq a b =
      sum_ext (λ r lr. ap (λ (t : Bool). on t 1) (test_iff _ _ (
        λ t. let (d, u) = (loop_length_says p r lp lr).0 t in (loop_length_says q r lq lr).1 (down_trans to q p r b d, down_trans to r p q u a),
        λ t. let (d, u) = (loop_length_says q r lq lr).0 t in (loop_length_says p r lp lr).1 (down_trans to p q r a d, down_trans to r q p u b),
      )))
