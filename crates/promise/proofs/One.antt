-- Each link of a chain of refusals keeps the promise to one outcome: if what follows admits at most one, so does the chain.
-- Assumes nothing.
use Prim.Native.Nat.{ℕ, ◌<◌}
use mathlib.Core.Path.{◌≡◌, sym, ap, ◌∙◌, subst}
use native.Mathlib.Omega.{arith}
use Rattle.promise.specs.Links.{Unless, UnlessAll, UnlessSome, FirstNot, Given, AtMostOne}
use Rattle.promise.specs.Links.Given.{given}
use Rattle.promise.specs.Links.Unless.{refused, met}
use Rattle.promise.specs.Links.UnlessAll.{refused_at, met_all}
use Rattle.promise.specs.Links.UnlessSome.{refused_with, met_none}

-- there is one first place
pub first_one : {n : ℕ} {Good : ℕ → Type 0} {p q : ℕ} → FirstNot n Good p → FirstNot n Good q → p ≡ q
first_one {n} {Good} {p} {q} f g =
    let not_less : p < q → ⊥ = λ l. f.here (g.before p l) in
    let not_more : q < p → ⊥ = λ l. g.here (f.before q l) in
    omega arith

-- what is said outright
pub is_one : {R : Type 0} (x : R) → AtMostOne (λ (r : R). r ≡ x)
is_one x r s e d = e ∙ sym d

module _ {R : Type 0} {Rest : R → Type 0} where
  -- a plain test
  pub unless_one : {Ok : Type 0} {x : R} → AtMostOne Rest → AtMostOne (Unless Ok x Rest)
  unless_one one r s (refused n e) (refused m d) = e ∙ sym d
  unless_one one r s (refused n e) (met o u) = absurd (n o)
  unless_one one r s (met o u) (refused n e) = absurd (n o)
  unless_one one r s (met o u) (met p v) = one r s u v

  -- where what follows is known to admit one only if the link is met
  pub unless_one_met : {Ok : Type 0} {x : R} → (Ok → AtMostOne Rest) → AtMostOne (Unless Ok x Rest)
  unless_one_met one r s (refused n e) (refused m d) = e ∙ sym d
  unless_one_met one r s (refused n e) (met o u) = absurd (n o)
  unless_one_met one r s (met o u) (refused n e) = absurd (n o)
  unless_one_met one r s (met o u) (met p v) = one o r s u v

  -- a first place
  pub unless_all_one : {n : ℕ} {Good : ℕ → Type 0} {x : ℕ → R} → AtMostOne Rest → AtMostOne (UnlessAll n Good x Rest)
  unless_all_one {x = x} one r s (refused_at p f e) (refused_at q g d) = e ∙ ap x (first_one f g) ∙ sym d
  unless_all_one one r s (refused_at p f e) (met_all a u) = absurd (f.here (a p f.inside))
  unless_all_one one r s (met_all a u) (refused_at p f e) = absurd (f.here (a p f.inside))
  unless_all_one one r s (met_all a u) (met_all b v) = one r s u v

  -- values found, which are the only ones
  pub unless_some_one : {W : Type 0} {Applies : W → Type 0} {x : W → R} → AtMostOne Applies → AtMostOne Rest → AtMostOne (UnlessSome Applies x Rest)
  unless_some_one {x = x} same one r s (refused_with v a e) (refused_with w b d) = e ∙ ap x (same v w a b) ∙ sym d
  unless_some_one same one r s (refused_with v a e) (met_none n u) = absurd (n v a)
  unless_some_one same one r s (met_none n u) (refused_with v a e) = absurd (n v a)
  unless_some_one same one r s (met_none n u) (met_none m v) = one r s u v

-- values that are there, and are the only ones
pub given_one : {R W : Type 0} {Is : W → Type 0} {Rest : W → R → Type 0} → AtMostOne Is → ((v : W) → Is v → AtMostOne (Rest v)) → AtMostOne (Given Is Rest)
given_one {Rest = Rest} same one r s (given v a x) (given w b y) = one w b r s (subst (λ u. Rest u r) (same v w a b) x) y

-- a promise of values that stand for outcomes: where each value can be told from its outcome, at most one value is admitted too
pub one_value : {A R : Type 0} {P : R → Type 0} (out : A → R) (back : R → A) → ((a : A) → back (out a) ≡ a) → AtMostOne P → AtMostOne (λ (a : A). P (out a))
one_value out back told one a b u v = sym (told a) ∙ ap back (one (out a) (out b) u v) ∙ told b
