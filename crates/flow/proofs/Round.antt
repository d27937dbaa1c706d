-- Walking round a loop: the first round meets each of its cells once, and ends within n steps. Assumes nothing.
use mathlib.Core.Path.{◌≡◌, refl, sym, ap, ◌∙◌}
use mathlib.Core.Logic.{inl, inr}
use Prim.Native.Nat.{ℕ, zero, suc, ◌+◌, ◌-◌, ◌≤◌, ◌<◌}
use native.Mathlib.Omega.{arith}
use lib.Dec.{eqb}
use borrow.Author.Tests.{eq-eqb, ne_eqb}
use Rattle.flow.specs.Net.{on, sum, steps, Down, OnLoop}
use Rattle.flow.proofs.Sum.{same, sum_ext, sum_delta}
use Rattle.flow.proofs.Walk.{steps_add, steps_suc, steps_cut, inside_at, down_of, down_short}

-- a walk from p that is back at p after suc k steps
module _ (to : ℕ → ℕ) (k p : ℕ) (back : steps to (suc k) p ≡ p) where
  -- whatever is met on the way is met on the first round
  pub first_round : (j : ℕ) → (i : ℕ) × (i < suc k) × (steps to i p ≡ steps to j p)
  unfolding steps
  first_round zero = (0, omega arith, refl)
  first_round (suc j) =
      let (i, l, e) = first_round j in
      let on : to (steps to i p) ≡ steps to (suc j) p = ap to e ∙ sym (steps_suc to j p) in
      elim (same i k) [
        | inl x ↦ (0, omega arith, sym back ∙ steps_suc to k p ∙ ap (λ (m : ℕ). to (steps to m p)) (sym x) ∙ on)
        | inr x ↦ (suc i, omega arith, steps_suc to i p ∙ on)
      ]

  -- each cell met is downstream of p, and p of it
  pub met : (i : ℕ) → i < suc k → Down to p (steps to i p) × Down to (steps to i p) p
  met i l = (
    down_of to p (steps to i p) (let h : 0 < suc k + i = omega arith in h) (steps_add to (suc k) i p ∙ ap (steps to i) back),
    down_of to (steps to i p) p (let h : 0 < suc k - i = omega arith in h) (sym (steps_cut to p (omega arith)) ∙ back),
  )

  -- and not before
  module _ (first : (i : ℕ) → i < k → steps to (suc i) p ≡ p → ⊥) where
    not_later : (i j : ℕ) → i < j → j < suc k → steps to i p ≡ steps to j p → ⊥
    not_later i j l lj e =
        let s : suc (i + (k - j)) ≡ i + (suc k - j) = omega arith in
        first (i + (k - j)) (omega arith)
        (ap (λ (m : ℕ). steps to m p) s ∙ steps_add to i (suc k - j) p ∙ ap (steps to (suc k - j)) e ∙ sym (steps_cut to p (omega arith)) ∙ back)

    -- the cells of the first round are all different
    different : (i j : ℕ) → i < suc k → j < suc k → steps to i p ≡ steps to j p → i ≡ j
    different i j li lj e =
        let a : i < j → ⊥ = λ l. not_later i j l lj e in
        let b : j < i → ⊥ = λ l. not_later j i l li (sym e) in
        omega arith

    -- a cell downstream of p is met on the first round, and once
    pub met_once : (q : ℕ) → Down to p q → sum (suc k) (λ i. on (eqb (steps to i p) q) 1) ≡ 1
    met_once q (j, d) =
        let (i, l, e) = first_round (suc j) in
        sum_ext (λ m lm. elim (same m i) [
          | inl x ↦ ap (λ b. on b 1) (eq-eqb _ _ (ap (λ (m : ℕ). steps to m p) x ∙ e ∙ d) ∙ sym (eq-eqb m i x))
          | inr x ↦ ap (λ b. on b 1) (ne_eqb _ _ (λ y. x (different m i lm l (y ∙ sym (e ∙ d)))) ∙ sym (ne_eqb m i x))
        ]) ∙ sum_delta (suc k) i (λ m. 1) l

-- from any cell downstream of a loop's cell the way leads back to it
pub loop_back : (to : ℕ → ℕ) (p q : ℕ) → Down to p p → Down to p q → Down to q p
loop_back to p q (k, back) (j, d) =
    let (i, l, e) = first_round to k p back (suc j) in
    rw (e ∙ d) at (met to k p back i l).1

-- a walk round has come back within n steps
pub round_ends : (n : ℕ) (to : ℕ → ℕ) → ((p : ℕ) → n ≤ p → n ≤ to p) → (p : ℕ) → OnLoop n to p → (m : ℕ) → ((i : ℕ) → i < m → steps to (suc i) p ≡ p → ⊥) → m < n
round_ends n to out p (l, d) m never =
    let (i, li, e) = down_short n to out p p l d in
    let h : i < m → ⊥ = λ h. never i h e in
    omega arith

module _ (n : ℕ) (to : ℕ → ℕ) (out : (p : ℕ) → n ≤ p → n ≤ to p) (p : ℕ) (on : OnLoop n to p) where
  -- whoever walks round stays inside
  pub round_inside : (j : ℕ) → steps to j p < n
  round_inside j =
      let (l, (k, back)) = on in
      let (i, li, e) = first_round to k p back j in
      let h : steps to i p < n = inside_at n to out p (let m : i ≤ suc k = omega arith in m) (omega arith) in
      omega arith
