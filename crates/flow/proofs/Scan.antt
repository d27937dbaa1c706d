-- The look-around method from end to end: the cells are scanned in order, and what is left at 0 is exactly the cells on loops.
-- Assumes nothing.
use mathlib.Core.Path.{◌≡◌, refl, sym, ap, ◌∙◌}
use mathlib.Core.Logic.{◌⊎◌, inl, inr, ◌↔◌}
use Prim.Native.Nat.{ℕ, ◌+◌, ◌≤◌, ◌<◌}
use native.Mathlib.Omega.{arith}
use Rattle.flow.specs.Net.{given, Counts, OnLoop, NoLoop, loop_length, FirstLoop}
use Rattle.flow.proofs.Sum.{same, on_ne, sum_none}
use Rattle.flow.proofs.Pigeon.{find}
use Rattle.flow.proofs.Walk.{down_inside}
use Rattle.flow.proofs.Look.{zero_iff_loop}
use Rattle.flow.proofs.LookStep.{Looked}
use Rattle.flow.proofs.Wait.{Waits, waits_less}

-- the scan has not come to p, and nothing gives to p
abbrev pub Ahead : ℕ → (ℕ → ℕ) → ℕ → ℕ → Type 0
Ahead n to k p = (k ≤ p) × ((q : ℕ) → q < n → to q ≡ p → ⊥)

module _ (n : ℕ) (to w c : ℕ → ℕ) where
  -- the start: every cell holds 0
  pub looked_start : ((p : ℕ) → p < n → c p ≡ 0) → Looked n to w c
  looked_start zeros = record {
    eq = λ p l h. absurd (h (zeros p l));
    before = λ p q l lq h e z. h (zeros p l);
  }

  -- then each cell has a giver, which holds 0, or lies ahead without one
  pub scan_start : ((p : ℕ) → p < n → c p ≡ 0) → Waits n to w c (Ahead n to 0)
  scan_start zeros p l v z = elim (find to p n) [
    | inl g ↦ inr (g.0, g.1, g.2, zeros g.0 g.1)
    | inr none ↦ inl (omega arith, none)
  ]

  -- the scan comes to cell k: that alone is excused beside those ahead
  pub scan_take : (k : ℕ) → Waits n to w c (Ahead n to k) → Waits n to w c (λ p. (p ≡ k) ⊎ Ahead n to (k + 1) p)
  scan_take k = waits_less n to w c (λ p l v z a. elim (same p k) [
    | inl e ↦ inl (inl e)
    | inr e ↦ (let le : k ≤ p = a.0 in inl (inr (omega arith, a.1)))
  ])

  -- it passes over cell k where that has a giver, or a count, or no weight
  pub scan_next : (k : ℕ) → (0 < w k → c k ≡ 0 → (q : ℕ) × (q < n) × (to q ≡ k)) → Waits n to w c (Ahead n to k) → Waits n to w c (Ahead n to (k + 1))
  scan_next k has = waits_less n to w c (λ p l v z a. elim (same p k) [
    | inl e ↦ (let (q, lq, g) = has (rw e at v) (rw e at z) in absurd (a.1 q lq (g ∙ sym e)))
    | inr e ↦ (let le : k ≤ p = a.0 in inl (omega arith, a.1))
  ])

  -- behind the last cell there is none ahead
  pub scan_end : (k : ℕ) → n ≤ k → Waits n to w c (Ahead n to k) → Waits n to w c (λ p. ⊥)
  scan_end k h = waits_less n to w c (λ p l v z a. absurd (let le : k ≤ p = a.0 in omega arith))

-- ---- what is left

-- both ends of each arrow have weight
abbrev pub EndsWeigh : ℕ → (ℕ → ℕ) → (ℕ → ℕ) → Type 0
EndsWeigh n to w = (q : ℕ) → q < n → to q < n → (0 < w q) × (0 < w (to q))

module _ (n : ℕ) (to w c : ℕ → ℕ) (out : (p : ℕ) → n ≤ p → n ≤ to p) (looked : Looked n to w c) (waits : Waits n to w c (λ p. ⊥)) (weigh : EndsWeigh n to w) where
  -- of the cells with weight, those on loops are left at 0, and no other
  pub scanned : (p : ℕ) → p < n → 0 < w p → (c p ≡ 0) ↔ OnLoop n to p
  scanned = zero_iff_loop n to out w c
      (λ p l h. (looked.eq p l h, λ q lq. looked.before p q l lq h))
      (λ p l v z. elim (waits p l v z) [
        | inl e ↦ absurd e
        | inr g ↦ (g.0, g.1, g.2, (weigh g.0 g.1 (omega (arith, g.2))).0, g.3)
      ])
      (λ p q l lq e. rw e at (weigh q lq (omega arith)).1)

  -- where there is no loop, the counts are found: a cell without weight is given nothing
  pub scanned_counts : NoLoop n to → Counts n to w c
  unfolding given
  scanned_counts free p l = elim (same (c p) 0) [
    | inl z ↦
        let bare : 0 < w p → ⊥ = λ v. let (lp, d) = (scanned p l v).0 z in free p lp d in
        let none : given n to c p ≡ 0 = sum_none (λ q lq. on_ne (to q) p (c q) (λ e. omega (arith, (weigh q lq (omega arith)).1, ap w e))) in
        omega arith
    | inr h ↦ looked.eq p l h
  ]

  loop_weighs : (p : ℕ) → OnLoop n to p → 0 < w p
  loop_weighs p (l, d) = (weigh p l (down_inside n to out p p l d)).0

  -- no cell with weight left at 0: no loop
  pub scanned_free : ((p : ℕ) → p < n → 0 < w p → c p ≡ 0 → ⊥) → NoLoop n to
  scanned_free none p l d = let v : 0 < w p = loop_weighs p (l, d) in none p l v ((scanned p l v).1 (l, d))

  -- the first cell with weight left at 0 is the first on a loop
  pub scanned_first : (p : ℕ) → p < n → 0 < w p → c p ≡ 0 → ((q : ℕ) → q < p → 0 < w q → c q ≡ 0 → ⊥) → FirstLoop n to p (loop_length n to p)
  scanned_first p l v z first = record {
    here = (scanned p l v).0 z;
    smallest = λ q lq o. let u : 0 < w q = loop_weighs q o in first q lq u ((scanned q o.0 u).1 o);
    length = refl;
  }
