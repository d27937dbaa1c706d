-- A step of counting in an order in which each cell comes after its givers: t, which is open, hands on and is done next, and no other cell.
-- Assumes nothing.
use mathlib.Core.Path.{◌≡◌, sym, ap, ◌∙◌}
use mathlib.Core.Bool.{Bool, true, false, not, ◌&&◌, true≢false}
use mathlib.Core.Logic.{inl, inr}
use Prim.Native.Nat.{ℕ, suc, ◌+◌, ◌≤◌, ◌<◌}
use native.Mathlib.Omega.{arith}
use lib.Dec.{eqb}
use Rattle.flow.specs.Net.{on, sum}
use Rattle.flow.proofs.Sum.{test, same, on_eq, on_ne, on_add, sum_ext, sum_change, sum_at_least}
use Rattle.flow.proofs.Walk.{below}
use Rattle.flow.proofs.Bound.{on_le}
use Rattle.flow.proofs.Cut.{incoming}
use Rattle.flow.proofs.Back.{loop_giver}
use Rattle.flow.proofs.HandOn.{Holds, GiversDone, LoopsOpen, open_cells, open_givers, open_sum}

module _ (n : ℕ) (to : ℕ → ℕ) (done next : ℕ → Bool) (t : ℕ) (lt : t < n) (open_t : done t ≡ false) (next_t : next t ≡ true)
    (next_other : (q : ℕ) → q < n → (q ≡ t → ⊥) → next q ≡ done q) where
  -- one cell fewer is open: the measure of the method
  pub open_cells_fall : suc (open_cells n next) ≡ open_cells n done
  unfolding open_cells
  open_cells_fall =
      let r : sum n (λ q. on (not (next q)) 1) + on (not (done t)) 1 ≡ sum n (λ q. on (not (done q)) 1) + on (not (next t)) 1 = sum_change lt (λ q lq h. rw (next_other q lq h)) in
      omega (arith, rw (open_t, next_t) at r)

  -- the cell that t gives to has one open giver fewer
  pub open_givers_fall : (p : ℕ) → open_givers n to next p + on (eqb (to t) p) 1 ≡ open_givers n to done p
  unfolding open_givers
  open_givers_fall p =
      let r : sum n (λ q. on (not (next q) && eqb (to q) p) 1) + on (not (done t) && eqb (to t) p) 1 ≡ sum n (λ q. on (not (done q) && eqb (to q) p) 1) + on (not (next t) && eqb (to t) p) 1 =
      sum_change lt (λ q lq h. rw (next_other q lq h)) in
      omega (arith, rw (open_t, next_t) at r)

  module _ (givers : (q : ℕ) → q < n → to q ≡ t → done q ≡ true) where
    -- t's arrow does not end at t
    pub not_self : to t ≡ t → ⊥
    not_self e = true≢false (sym (givers t lt e) ∙ open_t)

    pub givers_done_on : GiversDone n to done → GiversDone n to next
    givers_done_on s p q l lq e h = elim (same q t) [
      | inl eq ↦ ap next eq ∙ next_t
      | inr eq ↦ next_other q lq eq ∙ elim (same p t) [
        | inl ep ↦ givers q lq (e ∙ ep)
        | inr ep ↦ s p q l lq e (sym (next_other p l ep) ∙ h)
      ]
    ]

    -- t is on no loop: its giver there would be done
    pub loops_open_on : ((p : ℕ) → n ≤ p → n ≤ to p) → LoopsOpen n to done → LoopsOpen n to next
    loops_open_on out s p o = elim (same p t) [
      | inl e ↦ (let (q, oq, g) = loop_giver n to out p o in absurd (true≢false (sym (givers q oq.0 (g ∙ e)) ∙ s q oq)))
      | inr e ↦ next_other p o.0 e ∙ s p o
    ]

    -- t hands what it holds on to the cell that its water goes to
    module _ (before : GiversDone n to done) (c d : ℕ → ℕ) (given_on : to t < n → d (to t) ≡ c (to t) + c t)
        (other : (q : ℕ) → q < n → (q ≡ to t → ⊥) → d q ≡ c q) where
      same_done : (q : ℕ) → q < n → done q ≡ true → d q ≡ c q
      same_done q l h = other q l (λ e. true≢false (sym (before q t l lt (sym e) h) ∙ open_t))

      came : (p : ℕ) → p < n → incoming n to next d p ≡ incoming n to done c p + on (eqb (to t) p) (c t)
      unfolding incoming
      came p l =
          let dt : d t ≡ c t = other t lt (λ e. not_self (sym e)) in
          let r : sum n (λ q. on (next q && eqb (to q) p) (d q)) + on (done t && eqb (to t) p) (c t) ≡ sum n (λ q. on (done q && eqb (to q) p) (c q)) + on (next t && eqb (to t) p) (d t) =
          sum_change lt (λ q lq h. rw (next_other q lq h) (elim (test (done q)) [ inl e ↦ rw (e, same_done q lq e) | inr e ↦ rw e ])) in
          omega (arith, rw (open_t, next_t, dt) at r)

      -- each cell still holds its weight and what was given
      pub hand_on : (w : ℕ → ℕ) → Holds n to w c done → Holds n to w d next
      hand_on w s p l = elim (same p (to t)) [
        | inl e ↦
            let g : d p ≡ c p + c t = ap d e ∙ given_on (omega arith) ∙ ap (λ (x : ℕ). c x + c t) (sym e) in
            omega (arith, s p l, came p l, on_eq (to t) p (c t) (sym e))
        | inr e ↦ omega (arith, other p l e, s p l, came p l, on_ne (to t) p (c t) (λ x. e (sym x)))
      ]

      -- and the open cells hold no more together
      pub open_sum_falls : open_sum n d next ≤ open_sum n c done
      unfolding open_sum
      open_sum_falls =
          let r : sum n (λ q. on (not (next q)) (c q)) + on (not (done t)) (c t) ≡ sum n (λ q. on (not (done q)) (c q)) + on (not (next t)) (c t) = sum_change lt (λ q lq h. rw (next_other q lq h)) in
          let s : sum n (λ q. on (not (next q)) (c q)) + c t ≡ sum n (λ q. on (not (done q)) (c q)) + 0 = rw (open_t, next_t) at r in
          elim (below (to t) n) [
            | inl l ↦
                let u : sum n (λ q. on (not (next q)) (d q)) + on (not (next (to t))) (c (to t)) ≡ sum n (λ q. on (not (next q)) (c q)) + on (not (next (to t))) (d (to t)) =
                sum_change l (λ q lq h. rw (other q lq h)) in
                omega (arith, rw (given_on l, on_add) at u, on_le (not (next (to t))) (c t))
            | inr l ↦
                let u : sum n (λ q. on (not (next q)) (d q)) ≡ sum n (λ q. on (not (next q)) (c q)) = sum_ext (λ q lq. rw (other q lq (λ e. omega arith))) in
                omega arith
          ]

      -- so neither does any one open cell
      pub open_sum_at : (q : ℕ) → q < n → next q ≡ false → d q ≤ open_sum n c done
      unfolding open_sum
      open_sum_at q l o =
          let m : on (not (next q)) (d q) ≡ d q = rw o in
          omega (arith, sum_at_least n q (λ q. on (not (next q)) (d q)) l, open_sum_falls)
