-- A test of the first loop of a net that the checker computes, and its law.
-- Assumes nothing.
use mathlib.Core.Bool.{Bool, true, false, not, ◌&&◌, true≢false}
use mathlib.Core.Path.{◌≡◌, refl, sym, ◌∙◌}
use Prim.Native.Nat.{ℕ, ◌≤◌}
use lib.Dec.{eqb, ltb}
use borrow.Author.Tests.{eqb-true, ltb-true, not-true}
use Rattle.flow.specs.Net.{FirstLoop, loop_length}
use Rattle.flow.proofs.Test.{allb, allb_says, on_loopb, on_loopb_iff}

-- two tests, and both facts
pub both : (a b : Bool) → a && b ≡ true → (a ≡ true) × (b ≡ true)
both true b e = (refl, e)
both false b e = absurd (true≢false (sym e))

-- p is the smallest cell on any loop, and its loop has `len` cells
unfoldable pub firstb : ℕ → (ℕ → ℕ) → ℕ → ℕ → Bool
firstb n to p len = ltb p n && (on_loopb n to p && (allb p (λ q. not (on_loopb n to q)) && eqb len (loop_length n to p)))

pub first_says : (n : ℕ) (to : ℕ → ℕ) → ((p : ℕ) → n ≤ p → n ≤ to p) → (p len : ℕ) → firstb n to p len ≡ true → FirstLoop n to p len
unfolding firstb
first_says n to out p len e =
    let (a, x) = both (ltb p n) _ e in
    let (b, y) = both (on_loopb n to p) _ x in
    let (c, d) = both (allb p (λ q. not (on_loopb n to q))) _ y in
    record {
      here = (on_loopb_iff n to out p (ltb-true p n a)).0 b;
      smallest = λ q l o. true≢false (sym ((on_loopb_iff n to out q o.0).1 o) ∙ not-true _ (allb_says p _ c q l));
      length = eqb-true _ _ d;
    }
