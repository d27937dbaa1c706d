-- The look-around method half-way: a cell that still holds 0 waits for a giver that holds 0, or it is excused, because the scan or the walk comes to it yet.
-- Assumes nothing.
use mathlib.Core.Path.{◌≡◌, sym, ap, ◌∙◌}
use mathlib.Core.Logic.{◌⊎◌, inl, inr}
use Prim.Native.Nat.{ℕ, ◌≤◌, ◌<◌}
use native.Mathlib.Omega.{arith}
use Rattle.flow.proofs.Sum.{same}

-- some giver of p holds 0
abbrev pub GiverAtZero : ℕ → (ℕ → ℕ) → (ℕ → ℕ) → ℕ → Type 0
GiverAtZero n to c p = (q : ℕ) × (q < n) × (to q ≡ p) × (c q ≡ 0)

-- each cell with weight that holds 0 waits for a giver that holds 0, or is excused
abbrev pub Waits : ℕ → (ℕ → ℕ) → (ℕ → ℕ) → (ℕ → ℕ) → (ℕ → Type 0) → Type 0
Waits n to w c Excused = (p : ℕ) → p < n → 0 < w p → c p ≡ 0 → Excused p ⊎ GiverAtZero n to c p

module _ (n : ℕ) (to w c : ℕ → ℕ) where
  -- an excuse exchanged for another, or for a giver that holds 0
  pub waits_less : {E F : ℕ → Type 0} → ((p : ℕ) → p < n → 0 < w p → c p ≡ 0 → E p → F p ⊎ GiverAtZero n to c p)
      → Waits n to w c E → Waits n to w c F
  waits_less h s p l v z = elim (s p l v z) [ inl e ↦ h p l v z e | inr g ↦ inr g ]

  -- the walk stops before t, which waits for a giver: t needs no excuse
  pub waits_stop : {E : ℕ → Type 0} (t : ℕ) → GiverAtZero n to c t → Waits n to w c (λ p. (p ≡ t) ⊎ E p) → Waits n to w c E
  waits_stop t (q, l, e, z) = waits_less (λ p lp v zp x. elim x [ inl y ↦ inr (q, l, e ∙ sym y, z) | inr y ↦ inl y ])

  -- an excuse for what is no cell is none
  pub waits_past : {E : ℕ → Type 0} (t : ℕ) → n ≤ t → Waits n to w c (λ p. (p ≡ t) ⊎ E p) → Waits n to w c E
  waits_past t h = waits_less (λ p l v z x. elim x [ inl e ↦ absurd (omega arith) | inr e ↦ inl e ])

-- d is c with a count stored at t
module _ (n : ℕ) (to w c d : ℕ → ℕ) (t : ℕ) (other : (q : ℕ) → q < n → (q ≡ t → ⊥) → d q ≡ c q) (counted : d t ≡ 0 → ⊥) where
  -- of those that wait, only the cell that t gives to may wait for t alone
  pub waits_step : {E : ℕ → Type 0} → Waits n to w c E → Waits n to w d (λ p. (p ≡ to t) ⊎ E p)
  waits_step s p l v z =
      let off : p ≡ t → ⊥ = λ e. counted (ap d (sym e) ∙ z) in
      elim (s p l v (sym (other p l off) ∙ z)) [
        | inl e ↦ inl (inr e)
        | inr g ↦ elim (same g.0 t) [
          | inl e ↦ inl (inl (sym g.2 ∙ ap to e))
          | inr e ↦ inr (g.0, g.1, g.2, other g.0 g.1 e ∙ g.3)
        ]
      ]

  -- where t was excused, the excuse goes on down t's arrow
  pub waits_on : {E : ℕ → Type 0} → Waits n to w c (λ p. (p ≡ t) ⊎ E p) → Waits n to w d (λ p. (p ≡ to t) ⊎ E p)
  waits_on s p l v z = elim (waits_step s p l v z) [
    | inl x ↦ elim x [
      | inl e ↦ inl (inl e)
      | inr y ↦ elim y [ inl e ↦ absurd (counted (ap d (sym e) ∙ z)) | inr e ↦ inl (inr e) ]
    ]
    | inr g ↦ inr g
  ]
