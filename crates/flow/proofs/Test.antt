-- The tests that compute, and what they say; the measure of a walk. Assumes nothing.
use mathlib.Core.Path.{◌≡◌, refl, sym, ap, ◌∙◌}
use mathlib.Core.Bool.{Bool, true, false, not, ◌&&◌, true≢false}
use mathlib.Core.Logic.{◌⊎◌, inl, inr, ◌↔◌}
use Prim.Native.Nat.{ℕ, zero, suc, ◌+◌, ◌≤◌, ◌<◌}
use native.Mathlib.Omega.{arith}
use native.Mathlib.Nat.{eq-or-lt_of_le, le_of_suc-le-suc}
use lib.Dec.{eqb, ltb}
use borrow.Author.Tests.{eqb-true, eq-eqb, lt-ltb, le-ltb, not-true}
use Rattle.flow.specs.Net.{on, sum, steps, given, Counts, OnLoop, NoLoop, downb}
use Rattle.flow.proofs.Sum.{test, on_true, on_false, sum_first, sum_suc}
use Rattle.flow.proofs.Walk.{downb_iff, leaves}
use Rattle.flow.proofs.Through.{through}
use Rattle.flow.proofs.Count.{weighted_no_loop, through_counts}

-- p is downstream of itself
unfoldable pub on_loopb : ℕ → (ℕ → ℕ) → ℕ → Bool
on_loopb n to p = downb n to p p

-- f passes at each number below n
unfoldable pub allb : ℕ → (ℕ → Bool) → Bool
allb zero f = true
allb (suc n) f = let r = allb n f in f n && r

-- no cell is on a loop
unfoldable pub no_loopb : ℕ → (ℕ → ℕ) → Bool
no_loopb n to = allb n (λ p. not (on_loopb n to p))

-- the count equation holds at each cell
unfoldable pub countsb : ℕ → (ℕ → ℕ) → (ℕ → ℕ) → (ℕ → ℕ) → Bool
countsb n to w c = allb n (λ p. eqb (c p) (w p + given n to c p))

-- how many cells lie on the way from p, with p
unfoldable pub to_go : ℕ → (ℕ → ℕ) → ℕ → ℕ
to_go n to p = sum n (λ k. on (ltb (steps to k p) n) 1)

-- where the test of all passes, each passes
pub allb_says : (n : ℕ) (f : ℕ → Bool) → allb n f ≡ true → (p : ℕ) → p < n → f p ≡ true
unfolding allb
allb_says zero f h p l = absurd (omega arith)
allb_says (suc n) f h p l =
    elim (test (f n)) [
      | inl t ↦ elim (eq-or-lt_of_le (le_of_suc-le-suc l)) [ inl e ↦ ap f e ∙ t | inr k ↦ allb_says n f (sym (rw t) ∙ h) p k ]
      | inr t ↦ absurd (true≢false (sym h ∙ rw t))
    ]

-- and the other way round
pub allb_of : (n : ℕ) (f : ℕ → Bool) → ((p : ℕ) → p < n → f p ≡ true) → allb n f ≡ true
unfolding allb
allb_of zero f h = refl
allb_of (suc n) f h = rw (h n (omega arith)) (allb_of n f (λ p l. h p (omega arith)))

-- the first number below n at which f passes, if there is one
pub first_passing : (n : ℕ) (f : ℕ → Bool)
    → ((p : ℕ) → p < n → f p ≡ false) ⊎ ((p : ℕ) × (p < n) × (f p ≡ true) × ((q : ℕ) → q < p → f q ≡ false))
first_passing zero f = inl (λ p l. absurd (omega arith))
first_passing (suc n) f =
    elim (first_passing n f) [
      | inl no_other ↦ elim (test (f n)) [
        | inl t ↦ inr (n, omega arith, t, no_other)
        | inr t ↦ inl (λ p l. elim (eq-or-lt_of_le (le_of_suc-le-suc l)) [ inl e ↦ ap f e ∙ t | inr k ↦ no_other p k ])
      ]
      | inr s ↦ inr (s.0, omega arith, s.2, s.3)
    ]

-- the test of the count equation says what it should
pub countsb_iff : (n : ℕ) (to w c : ℕ → ℕ) → (countsb n to w c ≡ true) ↔ Counts n to w c
unfolding countsb
countsb_iff n to w c = (λ h p l. eqb-true _ _ (allb_says n _ h p l), λ h. allb_of n _ (λ p l. eq-eqb _ _ (h p l)))

module _ (n : ℕ) (to : ℕ → ℕ) (out : (p : ℕ) → n ≤ p → n ≤ to p) where
  -- so does the test of one cell for a loop
  pub on_loopb_iff : (p : ℕ) → p < n → (on_loopb n to p ≡ true) ↔ OnLoop n to p
  unfolding on_loopb
  on_loopb_iff p l = (λ e. (l, (downb_iff n to out p p l).0 e), λ o. (downb_iff n to out p p l).1 o.1)

  -- and that of the net
  pub no_loopb_iff : (no_loopb n to ≡ true) ↔ NoLoop n to
  unfolding no_loopb
  no_loopb_iff = (
    λ h p l d. true≢false (sym ((on_loopb_iff p l).1 (l, d)) ∙ not-true (on_loopb n to p) (allb_says n _ h p l)),
    λ h. allb_of n _ (λ p l. elim (test (on_loopb n to p)) [ inl t ↦ absurd (h p l ((on_loopb_iff p l).0 t).1) | inr t ↦ rw t ]),
  )

  -- a net has counts exactly when it has no loop
  pub solvable_iff : ((c : ℕ → ℕ) × Counts n to (λ p. 1) c) ↔ NoLoop n to
  solvable_iff = (λ s. weighted_no_loop n to out (λ p. 1) s.0 s.1 (λ p l k. omega arith), λ free. (through n to (λ p. 1), through_counts n to out free (λ p. 1)))

  -- one arrow on, the way is one cell shorter: a measure for a loop that walks downstream
  pub to_go_falls : NoLoop n to → (p : ℕ) → p < n → to_go n to p ≡ suc (to_go n to (to p))
  unfolding to_go steps
  to_go_falls free p l =
      omega (
        arith,
        sum_first n (λ k. on (ltb (steps to k p) n) 1),
        sum_suc n (λ k. on (ltb (steps to k p) n) 1),
        on_true 1 (lt-ltb p n l),
        on_false 1 (le-ltb (steps to n p) n (leaves n to out free p)),
      )
