-- No count that the look-around method stores exceeds the sum of the weights, half-way too, and on a net with loops too: so a count fits where that sum fits.
-- Assumes nothing.
use mathlib.Core.Path.{◌≡◌, refl, sym, ap, ◌∙◌}
use mathlib.Core.Bool.{Bool, not}
use mathlib.Core.Logic.{inl, inr}
use Prim.Native.Nat.{ℕ, ◌≤◌, ◌<◌}
use native.Mathlib.Omega.{arith}
use lib.Dec.{eqb}
use borrow.Author.Tests.{eqb-true, eq-eqb, ne_eqb}
use Rattle.flow.specs.Net.{on, sum, given, Counts, NoLoop}
use Rattle.flow.proofs.Sum.{same, on_ne, sum_none, sum_mono}
use Rattle.flow.proofs.Count.{weighted_no_loop}
use Rattle.flow.proofs.Cut.{kept, incoming_none, kept_out, kept_one, given_cut}
use Rattle.flow.proofs.Bound.{on_le, counts_bound}
use Rattle.flow.proofs.LookStep.{Looked}
use Rattle.flow.proofs.Scan.{EndsWeigh}

-- the arrow of q ends at a cell that holds 0
abbrev onto_zero : (ℕ → ℕ) → (ℕ → ℕ) → ℕ → Bool
onto_zero to c q = eqb (c (to q)) 0

-- the arrows among the counted cells: a giver of a counted cell is counted
abbrev among : ℕ → (ℕ → ℕ) → (ℕ → ℕ) → ℕ → ℕ
among n to c = kept n to (onto_zero to c)

-- the weight of the cells that are counted
counted : (ℕ → ℕ) → (ℕ → ℕ) → ℕ → ℕ
counted w c q = on (not (eqb (c q) 0)) (w q)

counted_not : (w c : ℕ → ℕ) (q : ℕ) → c q ≡ 0 → counted w c q ≡ 0
unfolding counted
counted_not w c q e = rw (eq-eqb (c q) 0 e)

counted_is : (w c : ℕ → ℕ) (q : ℕ) → (c q ≡ 0 → ⊥) → counted w c q ≡ w q
unfolding counted
counted_is w c q e = rw (ne_eqb (c q) 0 e)

counted_le : (n : ℕ) (w c : ℕ → ℕ) → sum n (counted w c) ≤ sum n w
unfolding counted
counted_le n w c = sum_mono (λ q l. on_le (not (eqb (c q) 0)) (w q))

-- the counted cells with the arrows between them are a net without loops, and what is stored are its counts
module _ (n : ℕ) (to w c : ℕ → ℕ) (out : (p : ℕ) → n ≤ p → n ≤ to p) (looked : Looked n to w c) where
  between : (q p : ℕ) → p < n → among n to c q ≡ p → (to q ≡ p) × (c p ≡ 0 → ⊥)
  unfolding kept
  between q p l e =
      let same_arrow : to q ≡ p = sym (kept_one n to (onto_zero to c) q (omega arith)) ∙ e in
      (same_arrow, λ z. let cut : among n to c q ≡ n = rw (eq-eqb (c (to q)) 0 (ap c same_arrow ∙ z)) in omega arith)

  stored_counts : Counts n (among n to c) (counted w c) c
  unfolding given
  stored_counts p l = elim (same (c p) 0) [
    | inl z ↦ omega (
      arith,
      counted_not w c p z,
      sum_none {n = n} {f = λ q. on (eqb (among n to c q) p) (c q)} (λ q lq. on_ne (among n to c q) p (c q) (λ e. (between q p l e).1 z)),
    )
    | inr h ↦ omega (
      arith,
      counted_is w c p h,
      looked.eq p l h,
      given_cut n to (onto_zero to c) c p l,
      incoming_none n to (onto_zero to c) c p (λ q lq a e. absurd (h (ap c (sym e) ∙ eqb-true (c (to q)) 0 a))),
    )
  ]

  -- no stored count is more than all the weight
  pub looked_bound : EndsWeigh n to w → (p : ℕ) → p < n → c p ≤ sum n w
  looked_bound weigh p l =
      let cut_out : (p : ℕ) → n ≤ p → n ≤ among n to c p = kept_out n to (onto_zero to c) out in
      let free : NoLoop n (among n to c) = weighted_no_loop n (among n to c) cut_out (counted w c) c stored_counts
      (λ q lq lt. let (e, h) = between q _ lt refl in
      omega (arith, (weigh q lq (omega arith)).0, counted_is w c q (looked.before _ q lt lq h e))) in
      omega (arith, counts_bound n (among n to c) cut_out free (counted w c) c stored_counts p l, counted_le n w c)
