-- Going back against the arrows: cells of some kind, each with a giver of that kind, lie on loops; and a loop's cell has a giver on the loop.
-- Assumes nothing.
use mathlib.Core.Path.{◌≡◌, sym, ap, ◌∙◌}
use Prim.Native.Nat.{ℕ, zero, suc, ◌+◌, ◌-◌, ◌≤◌, ◌<◌}
use native.Mathlib.Omega.{arith}
use native.Mathlib.Nat.{zero-add, suc-add, add-zero}
use Rattle.flow.specs.Net.{steps, OnLoop}
use Rattle.flow.proofs.Pigeon.{pigeon}
use Rattle.flow.proofs.Walk.{steps_suc, loop_on, down_of, inside_one}

module _ (n : ℕ) (to : ℕ → ℕ) (Left : ℕ → Type 0) (stuck : (p : ℕ) → p < n → Left p → (q : ℕ) × (q < n) × (to q ≡ p) × Left q) where
  -- a cell of the kind, and the one k arrows before it
  abbrev LeftCell : Type 0
  LeftCell = (q : ℕ) × (q < n) × Left q

  back : LeftCell → ℕ → LeftCell
  back x zero = x
  back x (suc k) =
      let (q, l, h) = back x k in
      let (r, lr, e, hr) = stuck q l h in
      (r, lr, hr)

  back_step : (x : LeftCell) (k : ℕ) → to (back x (suc k)).0 ≡ (back x k).0
  unfolding back
  back_step x k = let (q, l, h) = back x k in (stuck q l h).2

  back_steps : (x : LeftCell) (i k : ℕ) → steps to k (back x (k + i)).0 ≡ (back x i).0
  unfolding steps
  back_steps x i zero = rw zero-add
  back_steps x i (suc k) = rw suc-add (rw back_step (back_steps x i k))

  -- going back from giver to giver comes round
  pub back_loop : (p : ℕ) → p < n → Left p → OnLoop n to p
  back_loop p l h =
      let x : LeftCell = (p, l, h) in
      let (i, j, li, lj, e) = pigeon n (λ i. (back x i).0) (λ i l. (back x i).1) in
      let q : ℕ = (back x i).0 in
      let s : j - i + i ≡ j = omega arith in
      let round : steps to (j - i) q ≡ q = ap (steps to (j - i)) (e ∙ ap (λ (m : ℕ). (back x m).0) (sym s)) ∙ back_steps x i (j - i) in
      let here : steps to i q ≡ p = unfold back in (ap (λ (m : ℕ). steps to i (back x m).0) (sym (add-zero i)) ∙ back_steps x 0 i) in
      (l, down_of to p p (omega arith) (ap (steps to (j - i)) (sym here) ∙ loop_on to q (j - i) i round ∙ here))

-- a cell on a loop has a giver on a loop
pub loop_giver : (n : ℕ) (to : ℕ → ℕ) → ((p : ℕ) → n ≤ p → n ≤ to p) → (p : ℕ) → OnLoop n to p → (q : ℕ) × OnLoop n to q × (to q ≡ p)
loop_giver n to out p (l, (k, e)) =
    let q : ℕ = steps to k p in
    let s : to q ≡ p = sym (steps_suc to k p) ∙ e in
    (q, (inside_one n to out q (omega arith), (k, loop_on to p (suc k) k e)), s)
