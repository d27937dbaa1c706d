-- Loops: a loop as a set of cells and a cell that is downstream of itself say the same; the first loop of a net, if it has one.
-- Assumes nothing.
use mathlib.Core.Path.{◌≡◌, refl, sym, ap, ◌∙◌}
use mathlib.Core.Bool.{true≢false}
use mathlib.Core.Logic.{◌⊎◌, inl, inr, ◌↔◌}
use Prim.Native.Nat.{ℕ, suc, ◌+◌, ◌≤◌, ◌<◌}
use native.Mathlib.Omega.{arith}
use Rattle.flow.specs.Net.{steps, Down, Loop, OnLoop, NoLoop, loop_length, FirstLoop}
use Rattle.flow.proofs.Walk.{steps_add, down_of}
use Rattle.flow.proofs.Test.{on_loopb, on_loopb_iff, first_passing}

-- what is downstream of a cell downstream of p is downstream of p
pub down_trans : (to : ℕ → ℕ) (p q r : ℕ) → Down to p q → Down to q r → Down to p r
down_trans to p q r (j, d) (k, e) = down_of to p r (let l : 0 < suc j + suc k = omega arith in l) (steps_add to (suc j) (suc k) p ∙ ap (steps to (suc k)) d ∙ e)

-- q is downstream of p and p downstream of q: the cells q of the loop that p lies on
abbrev pub Round : ℕ → (ℕ → ℕ) → ℕ → ℕ → Type 0
Round n to p q = (q < n) × Down to p q × Down to q p

module _ (n : ℕ) (to : ℕ → ℕ) where
  -- a cell that is downstream of itself lies on a loop: itself and the cells downstream of it that it is downstream of
  pub loop_through : (p : ℕ) → OnLoop n to p → Loop n to (Round n to p)
  loop_through p (l, d) = record {
    some = (p, (l, d, d));
    cells = λ q h. h.0;
    round = λ q r hq hr. down_trans to q p r hq.2 hr.1;
    whole = λ q lq o h. let (a, b) = h p (l, d, d) in (lq, a, b);
  }

  -- and a loop has no other cells
  pub loop_is : (In : ℕ → Type 0) → Loop n to In → (p q : ℕ) → In p → In q ↔ Round n to p q
  loop_is In s p q i = (
    λ j. (s.cells q j, s.round p q i j, s.round q p j i),
    λ (l, a, b). s.whole q l (down_trans to q p q b a) (λ r k. (down_trans to r p q (s.round r p k i) a, down_trans to q p r b (s.round p r i k))),
  )

  -- a cell is on a loop exactly when it is one of some loop's cells
  pub on_loop_iff : (p : ℕ) → OnLoop n to p ↔ ((In : ℕ → Type 0) × Loop n to In × In p)
  on_loop_iff p = (
    λ o. (Round n to p, loop_through p o, (o.0, o.1, o.1)),
    λ (In, s, i). (s.cells p i, s.round p p i i),
  )

-- ---- the first loop

-- a net has no loop, or a first one
pub loop_or_free : (n : ℕ) (to : ℕ → ℕ) → ((p : ℕ) → n ≤ p → n ≤ to p) → NoLoop n to ⊎ ((p : ℕ) × FirstLoop n to p (loop_length n to p))
loop_or_free n to out =
    elim (first_passing n (on_loopb n to)) [
      | inl off ↦ inl (λ p l d. true≢false (sym ((on_loopb_iff n to out p l).1 (l, d)) ∙ off p l))
      | inr s ↦ inr (
        s.0,
        record {
          here = (on_loopb_iff n to out s.0 s.1).0 s.2;
          smallest = λ q l o. true≢false (sym ((on_loopb_iff n to out q o.0).1 o) ∙ s.3 q l);
          length = refl;
        },
      )
    ]

-- there is one first loop at most
pub first_loop_one : {n : ℕ} {to : ℕ → ℕ} {p q l m : ℕ} → FirstLoop n to p l → FirstLoop n to q m → (p ≡ q) × (l ≡ m)
first_loop_one {n} {to} {p} {q} s t =
    let a : p < q → ⊥ = λ l. t.smallest p l s.here in
    let b : q < p → ⊥ = λ l. s.smallest q l t.here in
    let e : p ≡ q = omega arith in
    (e, s.length ∙ ap (loop_length n to) e ∙ sym t.length)

-- and none where there is no loop
pub first_loop_free : {n : ℕ} {to : ℕ → ℕ} {p l : ℕ} → NoLoop n to → FirstLoop n to p l → ⊥
first_loop_free {p} free s = free p s.here.0 s.here.1
