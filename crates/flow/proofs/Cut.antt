-- A net cut into tiles. Assumes nothing.
use mathlib.Core.Path.{◌≡◌, refl, sym, ap, ◌∙◌}
use mathlib.Core.Bool.{Bool, true, false, cond, ◌&&◌}
use mathlib.Core.Logic.{inl, inr, ◌↔◌}
use Prim.Native.Nat.{ℕ, zero, suc, ◌+◌, ◌≤◌, ◌<◌}
use native.Mathlib.Omega.{arith}
use lib.Dec.{eqb}
use borrow.Author.Tests.{eqb-true}
use Rattle.flow.specs.Net.{on, sum, steps, given, Counts, NoLoop}
use Rattle.flow.proofs.Sum.{test, on_ne, sum_ext, sum_add, sum_none}
use Rattle.flow.proofs.Walk.{inside}
use Rattle.flow.proofs.Through.{through, through_add}
use Rattle.flow.proofs.Count.{counts_through}

-- the net without the arrows that are cut
unfoldable pub kept : ℕ → (ℕ → ℕ) → (ℕ → Bool) → ℕ → ℕ
kept n to cut p = cond (cut p) n (to p)

-- what comes to p over the arrows that are cut
unfoldable pub incoming : ℕ → (ℕ → ℕ) → (ℕ → Bool) → (ℕ → ℕ) → ℕ → ℕ
incoming n to cut c p = sum n (λ q. on (cut q && eqb (to q) p) (c q))

part : (n t p x : ℕ) (b : Bool) → p < n → on (eqb t p) x ≡ on (eqb (cond b n t) p) x + on (b && eqb t p) x
part n t p x true l = omega (arith, on_ne n p x (λ e. omega arith))
part n t p x false l = omega arith

both_off : (a b : Bool) (x : ℕ) → (a ≡ true → b ≡ true → x ≡ 0) → on (a && b) x ≡ 0
both_off true true x h = h refl refl
both_off true false x h = refl
both_off false b x h = refl

module _ (n : ℕ) (to : ℕ → ℕ) (cut : ℕ → Bool) where
  -- nothing comes in where no arrow that is cut brings anything
  pub incoming_none : (c : ℕ → ℕ) (p : ℕ) → ((q : ℕ) → q < n → cut q ≡ true → to q ≡ p → c q ≡ 0) → incoming n to cut c p ≡ 0
  unfolding incoming
  incoming_none c p h = sum_none (λ q l. both_off (cut q) (eqb (to q) p) (c q) (λ a b. h q l a (eqb-true (to q) p b)))

  -- what is given, by the arrows that stay and those that are cut
  pub given_cut : (c : ℕ → ℕ) (p : ℕ) → p < n → given n to c p ≡ given n (kept n to cut) c p + incoming n to cut c p
  unfolding given kept incoming
  given_cut c p l = sum_ext (λ q lq. part n (to q) p (c q) (cut q) l) ∙ sum_add n _ _

  -- counts of the whole net are counts of the cut net to which what comes in is added as weight
  pub cut_iff : (w c : ℕ → ℕ) → Counts n to w c ↔ Counts n (kept n to cut) (λ p. w p + incoming n to cut c p) c
  cut_iff w c = (λ h p l. omega (arith, h p l, given_cut c p l), λ h p l. omega (arith, h p l, given_cut c p l))

  -- outside stays outside
  pub kept_out : ((p : ℕ) → n ≤ p → n ≤ to p) → (p : ℕ) → n ≤ p → n ≤ kept n to cut p
  unfolding kept
  kept_out out p h = elim (test (cut p)) [ inl e ↦ rw e (omega arith) | inr e ↦ rw e (out p h) ]

  -- an arrow that ends inside is the old one
  pub kept_one : (p : ℕ) → kept n to cut p < n → kept n to cut p ≡ to p
  unfolding kept
  kept_one p h = elim (test (cut p)) [ inl e ↦ absurd (let r = rw e at h in omega arith) | inr e ↦ rw e ]

  module _ (out : (p : ℕ) → n ≤ p → n ≤ to p) where
    -- so is a walk that ends inside
    pub kept_steps : (k p : ℕ) → steps (kept n to cut) k p < n → steps (kept n to cut) k p ≡ steps to k p
    unfolding steps
    kept_steps zero p h = refl
    kept_steps (suc k) p h =
        kept_steps k (kept n to cut p) h ∙ ap (steps to k) (kept_one p (inside n (kept n to cut) (kept_out out) k (kept n to cut p) h))

    -- and cutting closes no loop
    pub kept_free : NoLoop n to → NoLoop n (kept n to cut)
    kept_free free p l (k, e) = free p l (k, sym (kept_steps (suc k) p (omega arith)) ∙ e)

    -- a solution of the whole net, tile by tile: what the tiles count by themselves, and what comes in over the cuts, carried on inside
    pub cut_through : NoLoop n to → (w c : ℕ → ℕ) → Counts n to w c → (p : ℕ) → p < n
        → c p ≡ through n (kept n to cut) w p + through n (kept n to cut) (incoming n to cut c) p
    cut_through free w c h p l =
        counts_through n (kept n to cut) (kept_out out) (kept_free free) (λ q. w q + incoming n to cut c q) c ((cut_iff w c).0 h) p l
        ∙ through_add n (kept n to cut) w (incoming n to cut c) p
