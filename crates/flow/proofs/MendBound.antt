-- No value that mending stores exceeds the sum of the weights: so a count fits where that sum fits, half-way too.
-- Assumes nothing.
use mathlib.Core.Path.{◌≡◌, refl, sym, ap, ◌∙◌}
use mathlib.Core.Bool.{Bool, true, cond, ◌||◌}
use mathlib.Core.Logic.{inl, inr}
use Prim.Native.Nat.{ℕ, suc, ◌+◌, ◌≤◌, ◌<◌}
use native.Mathlib.Omega.{arith}
use lib.Dec.{eqb}
use borrow.Author.Tests.{eqb-true, eq-eqb, ne_eqb}
use Rattle.flow.specs.Net.{on, sum, steps, given, Counts, NoLoop, downb}
use Rattle.flow.proofs.Sum.{test, same, sum_mono}
use Rattle.flow.proofs.Walk.{downb_iff}
use Rattle.flow.proofs.Count.{given_still}
use Rattle.flow.proofs.Passes.{counts_passes}
use Rattle.flow.proofs.Cut.{kept, incoming, incoming_none, given_cut, kept_out, kept_steps, kept_free}
use Rattle.flow.proofs.Mend.{Off}

-- c with the value v at t
stored : ℕ → (ℕ → ℕ) → ℕ → ℕ → ℕ
stored t c v q = cond (eqb q t) v (c q)

stored_at : (t : ℕ) (c : ℕ → ℕ) (v : ℕ) → stored t c v t ≡ v
unfolding stored
stored_at t c v = rw (eq-eqb t t refl)

stored_off : (t : ℕ) (c : ℕ → ℕ) (v q : ℕ) → (q ≡ t → ⊥) → stored t c v q ≡ c q
unfolding stored
stored_off t c v q e = rw (ne_eqb q t e)

-- the net with t's arrow cut
abbrev is : ℕ → ℕ → Bool
is t q = eqb q t

abbrev short : ℕ → (ℕ → ℕ) → ℕ → ℕ → ℕ
short n to t = kept n to (is t)

module _ (n : ℕ) (to w c : ℕ → ℕ) (t a b : ℕ) (out : (p : ℕ) → n ≤ p → n ≤ to p) (free : NoLoop n to) (lt : t < n) (off : Off n to w c t a b) where
  -- made good at t, the counts are those of the net with t's arrow cut, where what t gave comes in
  made_good : Counts n (short n to t) (λ p. w p + incoming n to (is t) c p) (stored t c (w t + given n to c t))
  unfolding kept
  made_good p l =
      let v : ℕ = w t + given n to c t in
      let ends : short n to t t ≡ n = rw (eq-eqb t t refl) in
      let still : given n (short n to t) (stored t c v) p ≡ given n (short n to t) c p =
      given_still n (short n to t) c (stored t c v) t lt (λ q lq e. stored_off t c v q e) p (λ e. omega arith) in
      elim (same p t) [
        | inl e ↦ omega (arith, stored_at t c v, given_cut n to (is t) c p l, ap (stored t c v) e, ap w e, ap (given n to c) e)
        | inr e ↦ omega (arith, stored_off t c v p e, off.rest p l e, given_cut n to (is t) c p l)
      ]

  -- what t gave does not come to t again
  above_none : (q : ℕ) → (eqb q t || downb n (short n to t) q t ≡ true) → incoming n to (is t) c q ≡ 0
  unfolding steps
  above_none q h =
      incoming_none n to (is t) c q (λ r l x e. absurd (
      let next : to t ≡ q = ap to (sym (eqb-true r t x)) ∙ e in
      elim (test (eqb q t)) [
        | inl y ↦ free t lt (0, next ∙ eqb-true q t y)
        | inr y ↦ (let (k, z) = (downb_iff n (short n to t) (kept_out n to (is t) out) q t lt).0 (sym (rw y) ∙ h) in
            free t lt (suc k, ap (steps to (suc k)) next ∙ sym (kept_steps n to (is t) out (suc k) q (omega arith)) ∙ z))
      ]
      ))

  -- what mending stores at t, c t + a - b, is no more than all the weight
  pub off_bound : c t + a ≤ sum n w + b
  off_bound =
      let v : ℕ = w t + given n to c t in
      let all : sum n (λ q. on (eqb q t || downb n (short n to t) q t) (w q + incoming n to (is t) c q)) ≤ sum n w =
      sum_mono (λ q l. elim (test (eqb q t || downb n (short n to t) q t)) [
        | inl h ↦ rw h (omega (arith, above_none q h))
        | inr h ↦ rw h (omega arith)
      ]) in
      omega (
        arith,
        off.at,
        stored_at t c v,
        counts_passes n (short n to t) (kept_out n to (is t) out) (kept_free n to (is t) out free) (λ p. w p + incoming n to (is t) c p) (stored t c v) made_good t lt,
      )
