-- Refusals in a fixed order. An outcome is the reply together with the final contents of every lent buffer, and a promise is a property of
-- the outcome. It is written as a chain: one link for each refusal, in the paper's order, and last what "done" means.
-- Assumes nothing.
use Rattle.std.specs.Prelude.{ℕ, ◌<◌, ◌≡◌}

-- Unless `Ok` holds, the outcome is `refusal`. Where it holds, the outcome is as `Rest` says.
pub data Unless {R : Type 0} (Ok : Type 0) (refusal : R) (Rest : R → Type 0) (r : R) : Type 0 where
  refused : (Ok → ⊥) → r ≡ refusal → Unless Ok refusal Rest r
  met : Ok → Rest r → Unless Ok refusal Rest r

-- `p` is the first of the places below `n` that is not `Good`.
pub record FirstNot (n : ℕ) (Good : ℕ → Type 0) (p : ℕ) : Type 0 where
  pub inside : p < n
  pub here : Good p → ⊥
  pub before : (q : ℕ) → q < p → Good q

-- Unless each place below `n` is `Good`, the outcome is `refusal` of the first that is not. Where each is, the outcome is as `Rest` says.
pub data UnlessAll {R : Type 0} (n : ℕ) (Good : ℕ → Type 0) (refusal : ℕ → R) (Rest : R → Type 0) (r : R) : Type 0 where
  refused_at : (p : ℕ) → FirstNot n Good p → r ≡ refusal p → UnlessAll n Good refusal Rest r
  met_all : ((q : ℕ) → q < n → Good q) → Rest r → UnlessAll n Good refusal Rest r

-- Where `Applies` holds of some values, the outcome is `refusal` of them. Where it holds of none, the outcome is as `Rest` says.
pub data UnlessSome {R W : Type 0} (Applies : W → Type 0) (refusal : W → R) (Rest : R → Type 0) (r : R) : Type 0 where
  refused_with : (v : W) → Applies v → r ≡ refusal v → UnlessSome Applies refusal Rest r
  met_none : ((v : W) → Applies v → ⊥) → Rest r → UnlessSome Applies refusal Rest r

-- Some values are as `Is` says, and the outcome is as `Rest` says of them.
pub data Given {R W : Type 0} (Is : W → Type 0) (Rest : W → R → Type 0) (r : R) : Type 0 where
  given : (v : W) → Is v → Rest v r → Given Is Rest r

-- a link, and what follows it
abbrev pub ◌then◌ : {R : Type 0} → ((R → Type 0) → R → Type 0) → (R → Type 0) → R → Type 0
◌then◌ link rest = link rest

infixr 5 ◌then◌
-- the outcome is `x`
abbrev pub Exactly : {R : Type 0} → R → R → Type 0
Exactly x r = r ≡ x

-- `P` holds of at most one outcome.
abbrev pub AtMostOne : {R : Type 0} → (R → Type 0) → Type 0
AtMostOne {R} P = (r s : R) → P r → P s → r ≡ s
