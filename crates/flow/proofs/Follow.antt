-- Following the water of a cell t that is put into a net without loops: it comes back to t or leaves the net, and soon.
-- Assumes nothing.
use mathlib.Core.Path.{◌≡◌}
use mathlib.Core.Logic.{inl, inr}
use Prim.Native.Nat.{ℕ, suc, ◌≤◌, ◌<◌}
use native.Mathlib.Omega.{arith}
use Rattle.flow.specs.Net.{steps, NoLoop}
use Rattle.flow.proofs.Walk.{below, inside_at, reaches_loop, down_short}
use Rattle.flow.proofs.Loop.{down_trans}
use Rattle.flow.proofs.Without.{Without}
use Rattle.flow.proofs.Close.{closes, closes_iff}

-- the net to' is the net to without t, and has no loop; m steps from t have not come back to t
module _ (n t : ℕ) (to w to' w' : ℕ → ℕ) (out : (p : ℕ) → n ≤ p → n ≤ to p) (out' : (p : ℕ) → n ≤ p → n ≤ to' p) (lt : t < n) (s : Without n t to w to' w')
    (free : NoLoop n to') (m : ℕ) (never : (i : ℕ) → i < m → steps to (suc i) t ≡ t → ⊥) where
  -- while they are inside, they are fewer than n
  pub follow_ends : steps to m t < n → m < n
  follow_ends here =
      elim (below m n) [
        | inl l ↦ l
        | inr h ↦
            let (i, li, o) = reaches_loop n to out t (inside_at n to out t h here) in
            let (a, b) = closes n t to w to' w' out out' lt s free (steps to i t) o in
            let (j, lj, e) = down_short n to out t t lt (down_trans to t (steps to i t) t a b) in
            absurd (never j (omega arith) e)
      ]

  -- and where the next is outside, t closes no loop
  pub follow_out : n ≤ steps to (suc m) t → NoLoop n to
  follow_out left =
      (closes_iff n t to w to' w' out out' lt s free).1 (λ (k, e). elim (below k m) [
        | inl l ↦ never k l e
        | inr h ↦ let here : steps to (suc m) t < n = inside_at n to out t (let j : suc m ≤ suc k = omega arith in j) (omega arith) in omega arith
      ])
