-- Which loops a cell closes when it is put into a net without loops: those that go through it, and so at most one.
-- Assumes nothing.
use mathlib.Core.Path.{◌≡◌, sym, ◌∙◌}
use mathlib.Core.Bool.{true≢false}
use mathlib.Core.Logic.{inl, inr, ◌↔◌}
use Prim.Native.Nat.{ℕ, suc, ◌≤◌, ◌<◌}
use native.Mathlib.Omega.{arith}
use Rattle.flow.specs.Net.{steps, Down, OnLoop, NoLoop, downb, FirstLoop}
use Rattle.flow.proofs.Sum.{test, same}
use Rattle.flow.proofs.Walk.{stay_out, inside_at, downb_iff}
use Rattle.flow.proofs.Loop.{down_trans}
use Rattle.flow.proofs.Round.{first_round, met, loop_back}
use Rattle.flow.proofs.LoopLength.{same_length, round_length}
use Rattle.flow.proofs.Alike.{Alike, alike_sym, same_down, away_down}
use Rattle.flow.proofs.Without.{Without}

-- two nets that differ at most at t and in the arrows onto it
module _ (n t : ℕ) (to to' : ℕ → ℕ) (out : (p : ℕ) → n ≤ p → n ≤ to p) (lt : t < n) (alike : Alike n t to to') where
  -- where one has no loop, each loop of the other goes through t
  pub loops_through : NoLoop n to' → (p : ℕ) → OnLoop n to p → Down to t p × Down to p t
  loops_through free p (l, d) =
      elim (same p t) [
        | inl e ↦ rw e (rw e at d, rw e at d)
        | inr e ↦ elim (test (downb n to p t)) [
          | inl h ↦ (let m : Down to p t = (downb_iff n to out p t lt).0 h in (loop_back to p t d m, m))
          | inr h ↦ absurd (free p l (away_down n t to to' out alike p p e (λ m. true≢false (sym ((downb_iff n to out p t lt).1 m) ∙ h)) l d))
        ]
      ]

-- the net to' is the net to without t
module _ (n t : ℕ) (to w to' w' : ℕ → ℕ) (out : (p : ℕ) → n ≤ p → n ≤ to p) (out' : (p : ℕ) → n ≤ p → n ≤ to' p) (lt : t < n) (s : Without n t to w to' w') where
  -- taking a cell out closes no loop
  pub without_free : NoLoop n to → NoLoop n to'
  unfolding steps
  without_free free p l d =
      let ends : (q : ℕ) → q < n → Down to' t q → ⊥ = λ q lq (k, e). omega (arith, stay_out n to' out' k (to' t) s.gone) in
      free p l (same_down n t to' to out' (alike_sym n t to to' s.alike) p l (λ e. ends t lt (rw e at d)) (ends p l) p d)

  -- each loop that putting t in closes goes through t
  pub closes : NoLoop n to' → (p : ℕ) → OnLoop n to p → Down to t p × Down to p t
  closes = loops_through n t to to' out lt s.alike

  -- so there is one exactly when t is then downstream of itself
  pub closes_iff : NoLoop n to' → NoLoop n to ↔ (Down to t t → ⊥)
  closes_iff free = (λ h. h t lt, λ h p l d. let (a, b) = closes free p (l, d) in h (down_trans to t p t a b))

  -- and walking round from t finds the first loop: its smallest cell, and its length
  pub closes_first : NoLoop n to' → (k : ℕ) → steps to (suc k) t ≡ t → ((i : ℕ) → i < k → steps to (suc i) t ≡ t → ⊥)
      → (p i : ℕ) → i < suc k → steps to i t ≡ p → ((j : ℕ) → j < suc k → p ≤ steps to j t) → FirstLoop n to p (suc k)
  closes_first free k back first p i li is_p least =
      let (down, up) = met to k t back i li in
      let tp : Down to t p = rw is_p at down in
      let pt : Down to p t = rw is_p at up in
      let lp : p < n = rw is_p at (inside_at n to out t (let h : i ≤ suc k = omega arith in h) (omega arith)) in
      record {
        here = (lp, down_trans to p t p pt tp);
        smallest = λ q lq o.
            let (j, d) = (closes free q o).0 in
            let (m, lm, e) = first_round to k t back (suc j) in
            omega (arith, least m lm, e ∙ d);
        length = sym (round_length n to out k t lt back first) ∙ same_length n to out t p lt lp tp pt;
      }
