-- The last cell of a cell's path, in a net without loops. Assumes nothing.
use mathlib.Core.Path.{◌≡◌, refl, sym, ap, ◌∙◌}
use mathlib.Core.Bool.{true, ◌||◌}
use mathlib.Core.Logic.{inl, inr}
use Prim.Native.Nat.{ℕ, zero, suc, ◌-◌, ◌≤◌, ◌<◌}
use native.Mathlib.Omega.{arith}
use lib.Dec.{eqb}
use borrow.Author.Tests.{eqb-true, eqb-false, eq-eqb, lt-ltb, le-ltb}
use Rattle.flow.specs.Net.{on, sum, steps, Down, NoLoop, downb}
use Rattle.flow.specs.Path.{End, last_in, last}
use Rattle.flow.proofs.Sum.{test, test_iff, sum_ext}
use Rattle.flow.proofs.Walk.{below, steps_cut, steps_suc, stay_out, leaves, downb_iff, down_of}
use Rattle.flow.proofs.Through.{through}
use Rattle.flow.proofs.Passes.{through_passes}

-- a cell whose water goes to no cell is its own last cell
pub last_past : (n : ℕ) (to : ℕ → ℕ) (p : ℕ) → n ≤ to p → last n to p ≡ p
unfolding last last_in
last_past n to p h = go n
  where
    go : (k : ℕ) → last_in n to k p ≡ p
    go zero = refl
    go (suc k) = rw (le-ltb (to p) n h)

module _ (n : ℕ) (to : ℕ → ℕ) (out : (p : ℕ) → n ≤ p → n ≤ to p) where
  -- past the end nothing is inside
  after_end : {i j : ℕ} (p : ℕ) → i < j → n ≤ to (steps to i p) → n ≤ steps to j p
  after_end {i} {j} p l h =
      rw (steps_cut to {i = suc i} {j = j} p l) (stay_out n to out (j - suc i) (steps to (suc i) p) (rw (steps_suc to i p) h))

  -- a path has one end at most
  pub end_unique : (p e f : ℕ) → End n to p e → End n to p f → e ≡ f
  end_unique p e f (i, ei, li, hi) (j, ej, lj, hj) =
      elim (below i j) [
        | inl l ↦ absurd (let h : n ≤ to (steps to i p) = rw ei hi in omega (arith, after_end p l h))
        | inr l ↦ elim (below j i) [
          | inl l' ↦ absurd (let h : n ≤ to (steps to j p) = rw ej hj in omega (arith, after_end p l' h))
          | inr l' ↦ (let s : i ≡ j = omega arith in sym ei ∙ ap (λ (x : ℕ). steps to x p) s ∙ ej)
        ]
      ]

  -- a cell whose water goes to no cell is an end
  pub end_here : (e : ℕ) → e < n → n ≤ to e → End n to e e
  unfolding steps
  end_here e l h = (0, refl, l, h)

  -- the cell before has the same end
  pub end_back : (p e : ℕ) → End n to (to p) e → End n to p e
  unfolding steps
  end_back p e (i, s, l, h) = (suc i, s, l, h)

  -- arrows enough lead to the end
  last_in_end : (k p : ℕ) → p < n → n ≤ steps to k p → End n to p (last_in n to k p)
  unfolding last_in steps
  last_in_end zero p l h = absurd (omega arith)
  last_in_end (suc k) p l h =
      elim (below (to p) n) [
        | inl b ↦ rw (lt-ltb (to p) n b) (end_back p _ (last_in_end k (to p) b h))
        | inr b ↦ rw (le-ltb (to p) n b) (end_here p l b)
      ]

  module _ (free : NoLoop n to) where
    -- each path ends at its last cell
    pub last_end : (p : ℕ) → p < n → End n to p (last n to p)
    unfolding last
    last_end p l = last_in_end n p l (leaves n to out free p)

    -- and at no other
    pub last_is : (p e : ℕ) → p < n → End n to p e → last n to p ≡ e
    last_is p e l h = end_unique p (last n to p) e (last_end p l) h

    -- the last cell is the same one arrow on
    pub last_step : (p : ℕ) → p < n → to p < n → last n to (to p) ≡ last n to p
    last_step p l b = sym (last_is p (last n to (to p)) l (end_back p _ (last_end (to p) b)))

    -- q's path passes the end e exactly where e is its last cell
    pub passes_last : (q e : ℕ) → q < n → e < n → n ≤ to e → (eqb q e || downb n to q e) ≡ eqb (last n to q) e
    unfolding steps
    passes_last q e lq le h = test_iff _ _ (to_last, from_last)
      where
        to_last : (eqb q e || downb n to q e) ≡ true → eqb (last n to q) e ≡ true
        to_last t =
            elim (test (eqb q e)) [
              | inl s ↦ eq-eqb _ _ (ap (last n to) (eqb-true q e s) ∙ last_past n to e h)
              | inr s ↦ (let d = (downb_iff n to out q e le).0 (sym (rw s) ∙ t) in eq-eqb _ _ (last_is q e lq (suc d.0, d.1, le, h)))
            ]

        from_last : eqb (last n to q) e ≡ true → (eqb q e || downb n to q e) ≡ true
        from_last t =
            elim (test (eqb q e)) [
              | inl s ↦ rw s
              | inr s ↦ rw s ((downb_iff n to out q e le).1 (go (last_end q lq) (eqb-true _ e t) (eqb-false q e s)))
            ]
          where
            go : {a : ℕ} → End n to q a → a ≡ e → (q ≡ e → ⊥) → Down to q e
            go (i, s, l, hh) x d = elim (below 0 i) [ inl p ↦ down_of to q e p (s ∙ x) | inr p ↦ absurd (d (let z : i ≡ 0 = omega arith in ap (λ (y : ℕ). steps to y q) (sym z) ∙ s ∙ x)) ]

    -- what passes the end e is what all cells whose path ends there hold
    pub through_last : (w : ℕ → ℕ) (e : ℕ) → e < n → n ≤ to e → through n to w e ≡ sum n (λ q. on (eqb (last n to q) e) (w q))
    through_last w e le h = through_passes n to out free w e le ∙ sum_ext (λ q lq. ap (λ b. on b (w q)) (passes_last q e lq le h))
