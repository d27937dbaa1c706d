-- Walks along the arrows: their parts, how a walk that stays inside comes to a loop, and the test for downstream. Assumes nothing.
use mathlib.Core.Path.{◌≡◌, refl, sym, ap, ◌∙◌}
use mathlib.Core.Bool.{true, true≢false}
use mathlib.Core.Logic.{◌⊎◌, inl, inr, ◌↔◌}
use Prim.Native.Nat.{ℕ, zero, suc, ◌+◌, ◌-◌, ◌≤◌, ◌<◌}
use native.Mathlib.Omega.{arith}
use native.Mathlib.Nat.{suc-add, zero-add, add_comm}
use lib.Dec.{eqb, ltb}
use borrow.Author.Tests.{eqb-true, eq-eqb, ltb-true, ltb-false}
use Rattle.flow.specs.Net.{steps, Down, OnLoop, NoLoop, down_in, downb}
use Rattle.flow.proofs.Sum.{test}
use Rattle.flow.proofs.Pigeon.{pigeon}

-- a number is below another or not
pub below : (a b : ℕ) → (a < b) ⊎ (b ≤ a)
below a b = elim (test (ltb a b)) [ inl e ↦ inl (ltb-true a b e) | inr e ↦ inr (ltb-false a b e) ]

-- a walk after a walk
pub steps_add : (to : ℕ → ℕ) (j k p : ℕ) → steps to (j + k) p ≡ steps to k (steps to j p)
unfolding steps
steps_add to zero k p = rw zero-add
steps_add to (suc j) k p = rw suc-add (steps_add to j k (to p))

-- the last arrow of a walk
pub steps_suc : (to : ℕ → ℕ) (k p : ℕ) → steps to (suc k) p ≡ to (steps to k p)
unfolding steps
steps_suc to zero p = refl
steps_suc to (suc k) p = steps_suc to k (to p)

-- a walk's parts by the number of its steps
pub steps_cut : (to : ℕ → ℕ) {i j : ℕ} (p : ℕ) → i ≤ j → steps to j p ≡ steps to (j - i) (steps to i p)
steps_cut to {i} {j} p l = let e : j ≡ i + (j - i) = omega arith in ap (λ (m : ℕ). steps to m p) e ∙ steps_add to i (j - i) p

-- a loop gone round from any of its cells
pub loop_on : (to : ℕ → ℕ) (p k i : ℕ) → steps to k p ≡ p → steps to k (steps to i p) ≡ steps to i p
loop_on to p k i e = sym (steps_add to i k p) ∙ ap (λ (m : ℕ). steps to m p) (add_comm i k) ∙ steps_add to k i p ∙ ap (steps to i) e

-- a walk of one step or more leads downstream
pub down_of : (to : ℕ → ℕ) {k : ℕ} (p q : ℕ) → 0 < k → steps to k p ≡ q → Down to p q
down_of to {k} p q l e = let s : suc (k - 1) ≡ k = omega arith in (k - 1, ap (λ (m : ℕ). steps to m p) s ∙ e)

-- two places of one walk that are the same cell: a loop
pub loop_of : (to : ℕ → ℕ) {i j : ℕ} (p : ℕ) → i < j → steps to i p ≡ steps to j p → Down to (steps to i p) (steps to i p)
loop_of to {i} {j} p l e = down_of to (steps to i p) (steps to i p) (omega arith) (sym (steps_cut to p (omega arith)) ∙ sym e)

-- the test `down_in` says what it should
pub down_in_says : (to : ℕ → ℕ) (k p q : ℕ) → down_in to k p q ≡ true → (i : ℕ) × (i < k) × (steps to (suc i) p ≡ q)
unfolding steps down_in
down_in_says to zero p q e = absurd (true≢false (sym e))
down_in_says to (suc k) p q e =
    elim (test (eqb (to p) q)) [
      | inl t ↦ (0, omega arith, eqb-true (to p) q t)
      | inr t ↦ let (i, l, s) = down_in_says to k (to p) q (sym (rw t) ∙ e) in (suc i, omega arith, s)
    ]

-- and passes where it should
pub down_in_of : (to : ℕ → ℕ) (k i p q : ℕ) → i < k → steps to (suc i) p ≡ q → down_in to k p q ≡ true
unfolding steps down_in
down_in_of to zero i p q l e = absurd (omega arith)
down_in_of to (suc k) zero p q l e = rw (eq-eqb (to p) q e)
down_in_of to (suc k) (suc i) p q l e = elim (test (eqb (to p) q)) [ inl t ↦ rw t | inr t ↦ rw t (down_in_of to k i (to p) q (omega arith) e) ]

module _ (n : ℕ) (to : ℕ → ℕ) (out : (p : ℕ) → n ≤ p → n ≤ to p) where
  -- a walk that is outside stays outside
  pub stay_out : (k p : ℕ) → n ≤ p → n ≤ steps to k p
  unfolding steps
  stay_out zero p h = h
  stay_out (suc k) p h = stay_out k (to p) (out p h)

  -- each cell on a walk that ends inside lies inside
  pub inside : (k p : ℕ) → steps to k p < n → p < n
  inside k p h = elim (below p n) [ inl l ↦ l | inr l ↦ omega (arith, stay_out k p l) ]

  -- the same of one arrow
  pub inside_one : (p : ℕ) → to p < n → p < n
  inside_one p h = elim (below p n) [ inl l ↦ l | inr l ↦ omega (arith, out p l) ]

  -- and of the first arrow on a way to a cell
  pub down_inside : (p q : ℕ) → q < n → Down to p q → to p < n
  unfolding steps
  down_inside p q l d = inside d.0 (to p) (omega (arith, d.1))

  -- and of each cell on the way
  pub inside_at : {i j : ℕ} (p : ℕ) → i ≤ j → steps to j p < n → steps to i p < n
  inside_at {i} {j} p l h = inside (j - i) (steps to i p) (rw (steps_cut to p l) at h)

  -- a walk of n steps that stays inside comes to a loop
  pub reaches_loop : (p : ℕ) → steps to n p < n → (i : ℕ) × (i < n) × OnLoop n to (steps to i p)
  reaches_loop p h =
      let (i, j, l, lj, e) = pigeon n (λ i. steps to i p) (λ i l. inside_at p (omega arith) h) in
      (i, omega arith, (inside_at p (omega arith) h, loop_of to p l e))

  -- so where there is no loop, a walk of n steps has left the net
  pub leaves : NoLoop n to → (p : ℕ) → n ≤ steps to n p
  leaves free p = elim (below (steps to n p) n) [ inl l ↦ (let (i, li, o) = reaches_loop p l in absurd (free (steps to i p) o.0 o.1)) | inr l ↦ l ]

  -- a walk to q, however long, has a part of at most n steps to q
  shorten : (fuel k p q : ℕ) → k < fuel → steps to (suc k) p ≡ q → q < n → (i : ℕ) × (i < n) × (steps to (suc i) p ≡ q)
  shorten zero k p q l e lq = absurd (omega arith)
  shorten (suc fuel) k p q l e lq =
      elim (below k n) [
        | inl s ↦ (k, s, e)
        | inr s ↦
            let here : steps to (suc k) p < n = omega arith in
            let (i, j, li, lj, t) = pigeon n (λ i. steps to i p) (λ i l. inside_at p (omega arith) here) in
            shorten fuel (i + (k - j)) p q (omega arith)
            (ap (λ (m : ℕ). steps to m p) (let z : suc (i + (k - j)) ≡ i + (suc k - j) = omega arith in z)
            ∙ steps_add to i (suc k - j) p ∙ ap (steps to (suc k - j)) t ∙ sym (steps_cut to p (omega arith)) ∙ e) lq
      ]

  -- what is downstream is met within n steps
  pub down_short : (p q : ℕ) → q < n → Down to p q → (i : ℕ) × (i < n) × (steps to (suc i) p ≡ q)
  down_short p q l d = shorten (suc d.0) d.0 p q (omega arith) d.1 l

  -- so the test for downstream says what it should
  pub downb_iff : (p q : ℕ) → q < n → (downb n to p q ≡ true) ↔ Down to p q
  unfolding downb
  downb_iff p q l = (
    λ e. let (i, li, s) = down_in_says to n p q e in (i, s),
    λ d. let (i, li, s) = down_short p q l d in down_in_of to n i p q li s,
  )
