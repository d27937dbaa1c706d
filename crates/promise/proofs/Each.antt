-- A promise read as a whole: what holds of each of its refusals, where that refusal applies, and of all that it allows at its end holds of its outcome.
-- Assumes nothing.
use Prim.Native.Nat.{ℕ, ◌<◌}
use Rattle.promise.specs.Links.{Unless, UnlessAll, UnlessSome, FirstNot}
use Rattle.promise.specs.Links.Unless.{refused, met}
use Rattle.promise.specs.Links.UnlessAll.{refused_at, met_all}
use Rattle.promise.specs.Links.UnlessSome.{refused_with, met_none}

module _ {R : Type 0} (P : R → Type 0) {Rest : R → Type 0} {r : R} where
  pub unless_each : {Ok : Type 0} {x : R} → ((Ok → ⊥) → P x) → (Ok → Rest r → P r) → Unless Ok x Rest r → P r
  unless_each p rest (refused n e) = rw e (p n)
  unless_each p rest (met o u) = rest o u

  pub unless_all_each : {n : ℕ} {Good : ℕ → Type 0} {x : ℕ → R} → ((p : ℕ) → FirstNot n Good p → P (x p)) → (((q : ℕ) → q < n → Good q) → Rest r → P r)
      → UnlessAll n Good x Rest r → P r
  unless_all_each p rest (refused_at q f e) = rw e (p q f)
  unless_all_each p rest (met_all a u) = rest a u

  pub unless_some_each : {W : Type 0} {Applies : W → Type 0} {x : W → R} → ((v : W) → Applies v → P (x v)) → (((v : W) → Applies v → ⊥) → Rest r → P r)
      → UnlessSome Applies x Rest r → P r
  unless_some_each p rest (refused_with v a e) = rw e (p v a)
  unless_some_each p rest (met_none n u) = rest n u
