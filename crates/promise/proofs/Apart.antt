-- A promise taken apart, for a caller: where a link's test is met, the outcome is as what follows says; and a reply that has one number has no other.
-- Assumes nothing.
use Prim.Native.Nat.{ℕ, ◌<◌}
use mathlib.Core.Bool.{false, true≢false}
use mathlib.Core.Path.{◌≡◌, sym, ap, ◌∙◌}
use lib.Dec.{eqb}
use borrow.Author.Tests.{eq-eqb}
use Rattle.promise.specs.Reply.{Reply, number_of}
use Rattle.promise.specs.Links.{Unless, UnlessAll, UnlessSome}
use Rattle.promise.specs.Links.Unless.{refused, met}
use Rattle.promise.specs.Links.UnlessAll.{refused_at, met_all}
use Rattle.promise.specs.Links.UnlessSome.{refused_with, met_none}

-- a reply that has one number has no other
pub other : {X : Type 0} {n m : ℕ} → eqb n m ≡ false → n ≡ m → X
other {n = n} {m = m} d e = absurd (true≢false (sym (eq-eqb n m e) ∙ d))

pub other_said : {X : Type 0} {said x : Reply} {m : ℕ} → eqb (number_of x) m ≡ false → said ≡ x → number_of said ≡ m → X
other_said d e h = other d (sym (ap number_of e) ∙ h)

module _ {R : Type 0} {Rest : R → Type 0} {r : R} where
  -- the link is passed where its test is met
  pub unless_ok : {Ok : Type 0} {x : R} → Unless Ok x Rest r → Ok → Rest r
  unless_ok (refused n e) o = absurd (n o)
  unless_ok (met o u) k = u

  pub unless_all_ok : {n : ℕ} {Good : ℕ → Type 0} {x : ℕ → R} → UnlessAll n Good x Rest r → ((q : ℕ) → q < n → Good q) → Rest r
  unless_all_ok (refused_at p f e) g = absurd (f.here (g p f.inside))
  unless_all_ok (met_all a u) g = u

  pub unless_some_ok : {W : Type 0} {Applies : W → Type 0} {x : W → R} → UnlessSome Applies x Rest r → ((v : W) → Applies v → ⊥) → Rest r
  unless_some_ok (refused_with v a e) n = absurd (n v a)
  unless_some_ok (met_none n u) k = u
