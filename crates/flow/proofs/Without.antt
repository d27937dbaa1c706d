-- A cell taken out of a net and put into it: the count equation is then off at one cell, the one that its arrow ends at, by its count.
-- So a change at one cell is two moves, each followed by mending down one way. Assumes nothing.
use mathlib.Core.Path.{◌≡◌, refl, sym}
use mathlib.Core.Logic.{inl, inr}
use Prim.Native.Nat.{ℕ, ◌+◌, ◌≤◌, ◌<◌}
use native.Mathlib.Omega.{arith}
use lib.Dec.{eqb}
use borrow.Author.Tests.{eqb-true, eq-eqb}
use Rattle.flow.specs.Net.{on, given, Counts}
use Rattle.flow.proofs.Sum.{test_iff, same, on_eq, on_ne, sum_none, sum_change}
use Rattle.flow.proofs.Count.{given_still}
use Rattle.flow.proofs.Bound.{on_le}
use Rattle.flow.proofs.Mend.{Off}
use Rattle.flow.proofs.Alike.{Alike}

-- the net to', with the weight w', is the net to, with the weight w, without t
pub record Without (n t : ℕ) (to w to' w' : ℕ → ℕ) : Type 0 where
  pub alike : Alike n t to to'
  pub weights : (q : ℕ) → q < n → (q ≡ t → ⊥) → w' q ≡ w q
  pub gone : n ≤ to' t
  pub alone : (q : ℕ) → q < n → to' q ≡ t → ⊥
  pub bare : w' t ≡ 0

-- c and d agree at each cell but t
module _ (n t : ℕ) (to w to' w' c d : ℕ → ℕ) (lt : t < n) (s : Without n t to w to' w') (other : (q : ℕ) → q < n → (q ≡ t → ⊥) → d q ≡ c q) where
  given_without : (p : ℕ) → p < n → (p ≡ t → ⊥) → given n to c p ≡ given n to' d p + on (eqb (to t) p) (c t)
  unfolding given
  given_without p l h =
      omega (
        arith,
        sum_change {f = λ q. on (eqb (to q) p) (c q)} {g = λ q. on (eqb (to' q) p) (d q)} lt (λ q lq e.
            let (a, b) = s.alike q p lq l e h in
            let arrows : eqb (to q) p ≡ eqb (to' q) p = test_iff _ _ (λ t. eq-eqb _ _ (a (eqb-true _ _ t)), λ t. eq-eqb _ _ (b (eqb-true _ _ t))) in
            rw (arrows, other q lq e)),
        on_ne (to' t) p (d t) (λ e. omega (arith, s.gone)),
      )

  given_alone : given n to' d t ≡ 0
  unfolding given
  given_alone = sum_none (λ q lq. on_ne (to' q) t (d q) (s.alone q lq))

-- t taken out: c are the counts with t, and d is c with 0 stored at t
module _ (n t : ℕ) (to w to' w' c d : ℕ → ℕ) (lt : t < n) (s : Without n t to w to' w') (other : (q : ℕ) → q < n → (q ≡ t → ⊥) → d q ≡ c q)
    (counts : Counts n to w c) (stored : d t ≡ 0) where
  taken : (p : ℕ) → p < n → (to t ≡ p → ⊥) → d p ≡ w' p + given n to' d p
  taken p l h = elim (same p t) [
    | inl e ↦ rw e (omega (arith, stored, s.bare, given_alone n t to w to' w' c d lt s other))
    | inr e ↦ omega (arith, other p l e, counts p l, s.weights p l e, given_without n t to w to' w' c d lt s other p l e, on_ne (to t) p (c t) h)
  ]

  -- the cell that t gave to holds t's count too much
  pub take_out : (to t ≡ t → ⊥) → to t < n → Off n to' w' d (to t) 0 (c t)
  take_out move l = record {
    rest = λ p lp h. taken p lp (λ e. h (sym e));
    at = omega (arith, other (to t) l move, counts (to t) l, s.weights (to t) l move, given_without n t to w to' w' c d lt s other (to t) l move, on_eq (to t) (to t) (c t) refl);
  }

  -- where t gave to none, these are the counts without t
  pub take_out_end : n ≤ to t → Counts n to' w' d
  take_out_end h p l = taken p l (λ e. omega arith)

-- t put in: c are the counts without t, and d is c with t's count stored
module _ (n t : ℕ) (to w to' w' c d : ℕ → ℕ) (lt : t < n) (s : Without n t to w to' w') (other : (q : ℕ) → q < n → (q ≡ t → ⊥) → d q ≡ c q)
    (counts : Counts n to' w' c) (stored : d t ≡ w t + given n to c t) (move : to t ≡ t → ⊥) where
  given_put : (p : ℕ) → p < n → (p ≡ t → ⊥) → given n to d p ≡ given n to' c p + on (eqb (to t) p) (d t)
  given_put = given_without n t to w to' w' d c lt s (λ q l e. sym (other q l e))

  put : (p : ℕ) → p < n → (to t ≡ p → ⊥) → d p ≡ w p + given n to d p
  put p l h = elim (same p t) [
    | inl e ↦ rw e (omega (arith, stored, given_still n to c d t lt other t move))
    | inr e ↦ omega (arith, other p l e, counts p l, s.weights p l e, given_put p l e, on_ne (to t) p (d t) h)
  ]

  -- the cell that t gives to lacks t's count
  pub put_in : to t < n → Off n to w d (to t) (d t) 0
  put_in l = record {
    rest = λ p lp h. put p lp (λ e. h (sym e));
    at = omega (arith, other (to t) l move, counts (to t) l, s.weights (to t) l move, given_put (to t) l move, on_eq (to t) (to t) (d t) refl);
  }

-- t to be put in: the counts without t are off at t alone, by what t is to hold
module _ (n t : ℕ) (to w to' w' c : ℕ → ℕ) (lt : t < n) (s : Without n t to w to' w') (counts : Counts n to' w' c) where
  holds_none : c t ≡ 0
  holds_none = omega (arith, counts t lt, s.bare, given_alone n t to w to' w' c c lt s (λ q l e. refl))

  pub put_off : Off n to w c t (w t + given n to c t) 0
  put_off = record {
    rest = λ p l h. omega (arith, holds_none, counts p l, s.weights p l h, given_without n t to w to' w' c c lt s (λ q l e. refl) p l h, on_le (eqb (to t) p) (c t));
    at = omega (arith, holds_none);
  }
