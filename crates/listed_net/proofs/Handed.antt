-- A step of handing on, over functions: g says for how many givers each cell waits, or that it has handed on.
-- Assumes nothing.
use Rattle.std.proofs.Common.{true, false, inl, inr, ◌≡◌, refl, sym, ap, ◌∙◌, ℕ, ◌+◌, ◌<◌, ◌≤◌, arith, eqb}
use Rattle.std.proofs.lemmas.Bool.{eq-eqb, ne_eqb, true≢false}
use Rattle.flow.specs.Net.{on}
use Rattle.flow.proofs.Sum.{test, same, on_eq, on_ne}
use Rattle.flow.proofs.HandOn.{Holds, open_cells, open_givers, open_givers_le, open_givers_none}
use Rattle.flow.proofs.HandStep.{open_cells_fall, open_givers_fall, givers_done_on, loops_open_on, hand_on, open_sum_falls, open_sum_at}
use Rattle.listed_net.specs.Method.{handed_on, marked, Handing}

-- t is marked, and the cell that its water goes to gets what t holds and waits for one giver fewer; nothing else changes
pub record HandsOn (n : ℕ) (to c g : ℕ → ℕ) (t : ℕ) (d h : ℕ → ℕ) : Type 0 where
  pub mark : h t ≡ handed_on
  pub fewer : to t < n → h (to t) + 1 ≡ g (to t)
  pub still : (q : ℕ) → q < n → (q ≡ t → ⊥) → (q ≡ to t → ⊥) → h q ≡ g q
  pub given_on : to t < n → d (to t) ≡ c (to t) + c t
  pub other : (q : ℕ) → q < n → (q ≡ to t → ⊥) → d q ≡ c q

module _ {n : ℕ} {to c g : ℕ → ℕ} (most : n ≤ 1000000) (s : Handing n to c g) (t : ℕ) (ready : (t < n) × (g t ≡ 0)) where
  -- a cell that waits for no giver has not handed on
  open_t : marked g t ≡ false
  open_t = ne_eqb (g t) handed_on (λ e. omega (arith, ready.1))

  -- all its givers have handed on
  givers : (q : ℕ) → q < n → to q ≡ t → marked g q ≡ true
  givers = open_givers_none n to (marked g) t (sym (s.waits t ready.0 open_t) ∙ ready.1)

  -- the cell that its water goes to has not, and waits for t
  next_open : to t < n → marked g (to t) ≡ false
  next_open l = elim (test (marked g (to t))) [
    | inl e ↦ absurd (true≢false (sym (s.before (to t) t l ready.0 refl e) ∙ open_t))
    | inr e ↦ e
  ]

  pub next_waits : to t < n → (0 < g (to t)) × (g (to t) ≤ n)
  next_waits l =
      let w : g (to t) ≡ open_givers n to (marked g) (to t) = s.waits (to t) l (next_open l) in
      let some : 0 < open_givers n to (marked g) (to t) = elim (same (open_givers n to (marked g) (to t)) 0) [
        | inl z ↦ absurd (true≢false (sym (open_givers_none n to (marked g) (to t) z t ready.0 refl) ∙ open_t))
        | inr z ↦ omega arith
      ] in
      (omega arith, omega (arith, open_givers_le n to (marked g) (to t)))

  pub next_other_cell : to t ≡ t → ⊥
  next_other_cell e = true≢false (sym (givers t ready.0 e) ∙ open_t)

  module _ {d h : ℕ → ℕ} (step : HandsOn n to c g t d h) where
    marked_t : marked h t ≡ true
    marked_t = eq-eqb (h t) handed_on step.mark

    marked_other : (q : ℕ) → q < n → (q ≡ t → ⊥) → marked h q ≡ marked g q
    marked_other q l e = elim (same q (to t)) [
      | inl x ↦
          let lq : to t < n = omega arith in
          let u : h q + 1 ≡ g q = ap (λ (y : ℕ). h y + 1) x ∙ step.fewer lq ∙ ap g (sym x) in
          let m : g q ≤ n = omega (arith, (next_waits lq).1, ap g x) in
          ne_eqb (h q) handed_on (λ y. omega arith) ∙ sym (ne_eqb (g q) handed_on (λ y. omega arith))
      | inr x ↦ ap (λ (y : ℕ). eqb y handed_on) (step.still q l e x)
    ]

    waits_on : (p : ℕ) → p < n → marked h p ≡ false → h p ≡ open_givers n to (marked h) p
    waits_on p l o =
        let off : p ≡ t → ⊥ = λ e. true≢false (sym (ap (marked h) e ∙ marked_t) ∙ o) in
        let w : g p ≡ open_givers n to (marked g) p = s.waits p l (sym (marked_other p l off) ∙ o) in
        let fall : open_givers n to (marked h) p + on (eqb (to t) p) 1 ≡ open_givers n to (marked g) p = open_givers_fall n to (marked g) (marked h) t ready.0 open_t marked_t marked_other p in
        elim (same p (to t)) [
          | inl x ↦
              let u : h p + 1 ≡ g p = ap (λ (y : ℕ). h y + 1) x ∙ step.fewer (omega arith) ∙ ap g (sym x) in
              omega (arith, on_eq (to t) p 1 (sym x))
          | inr x ↦ omega (arith, on_ne (to t) p 1 (λ y. x (sym y)), step.still p l off x)
        ]

    pub handed : ((p : ℕ) → n ≤ p → n ≤ to p) → Handing n to d h
    handed out = record {
      waits = waits_on;
      before = givers_done_on n to (marked g) (marked h) t ready.0 open_t marked_t marked_other givers s.before;
      loops = loops_open_on n to (marked g) (marked h) t ready.0 open_t marked_t marked_other givers out s.loops;
      light = omega (arith, s.light, open_sum_falls n to (marked g) (marked h) t ready.0 open_t marked_t marked_other givers s.before c d step.given_on step.other);
    }

    pub handed_holds : (w : ℕ → ℕ) → Holds n to w c (marked g) → Holds n to w d (marked h)
    handed_holds = hand_on n to (marked g) (marked h) t ready.0 open_t marked_t marked_other givers s.before c d step.given_on step.other

    pub handed_less : open_cells n (marked h) < open_cells n (marked g)
    handed_less = omega (arith, open_cells_fall n to (marked g) (marked h) t ready.0 open_t marked_t marked_other)

    -- what is handed on fits where the sum of the weights does
    pub handed_fits : to t < n → c (to t) + c t < 4294967296
    handed_fits l =
        let o : marked h (to t) ≡ false = marked_other (to t) l next_other_cell ∙ next_open l in
        omega (arith, s.light, step.given_on l, open_sum_at n to (marked g) (marked h) t ready.0 open_t marked_t marked_other givers s.before c d step.given_on step.other (to t) l o)
