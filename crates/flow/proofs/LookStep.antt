-- A step of the look-around method. Assumes nothing.
use mathlib.Core.Path.{◌≡◌, sym, ap, ◌∙◌}
use mathlib.Core.Logic.{inl, inr}
use Prim.Native.Nat.{ℕ, suc, ◌+◌, ◌<◌}
use native.Mathlib.Omega.{arith}
use lib.Dec.{eqb}
use Rattle.flow.specs.Net.{on, number, given}
use Rattle.flow.proofs.Sum.{same, on_eq, on_ne, sum_change}
use Rattle.flow.proofs.Count.{given_still}

-- how many cells hold 0
unfoldable pub zeros : ℕ → (ℕ → ℕ) → ℕ
zeros n c = number n (λ p. eqb (c p) 0)

-- each cell that is not 0 is counted, and so is each of its givers
pub record Looked (n : ℕ) (to w c : ℕ → ℕ) : Type 0 where
  pub eq : (p : ℕ) → p < n → (c p ≡ 0 → ⊥) → c p ≡ w p + given n to c p
  pub before : (p q : ℕ) → p < n → q < n → (c p ≡ 0 → ⊥) → to q ≡ p → c q ≡ 0 → ⊥

-- t was 0 and its givers are counted; d is c with t's count stored
module _ (n : ℕ) (to w c d : ℕ → ℕ) (t : ℕ) (lt : t < n) (zero_at_lem : c t ≡ 0) (givers : (q : ℕ) → q < n → to q ≡ t → c q ≡ 0 → ⊥)
    (other : (q : ℕ) → q < n → (q ≡ t → ⊥) → d q ≡ c q) (new : d t ≡ w t + given n to c t) where
  still : (p : ℕ) → (to t ≡ p → ⊥) → given n to d p ≡ given n to c p
  still = given_still n to c d t lt other

  -- storing keeps what holds half-way
  pub look_step : Looked n to w c → Looked n to w d
  look_step s = record {
    eq = λ p l h. elim (same p t) [
      | inl e ↦ rw e (omega (arith, new, still t (λ x. givers t lt x zero_at_lem)))
      | inr e ↦ let hc : c p ≡ 0 → ⊥ = λ z. h (other p l e ∙ z) in
          omega (arith, other p l e, s.eq p l hc, still p (λ x. s.before p t l lt hc x zero_at_lem))
    ];
    before = λ p q l lq h g z.
        let cq : c q ≡ 0 = elim (same q t) [ inl e ↦ ap c e ∙ zero_at_lem | inr e ↦ sym (other q lq e) ∙ z ] in
        elim (same p t) [ inl e ↦ givers q lq (g ∙ e) cq | inr e ↦ s.before p q l lq (λ x. h (other p l e ∙ x)) g cq ];
  }

  -- and one cell fewer holds 0: the measure of the method
  pub zeros_fall : (d t ≡ 0 → ⊥) → suc (zeros n d) ≡ zeros n c
  unfolding zeros
  zeros_fall h = omega (
    arith,
    sum_change {f = λ p. on (eqb (d p) 0) 1} {g = λ p. on (eqb (c p) 0) 1} lt (λ q l e. rw (other q l e)),
    on_eq (c t) 0 1 zero_at_lem,
    on_ne (d t) 0 1 h,
  )
