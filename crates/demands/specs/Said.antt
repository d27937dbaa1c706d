-- What a reply says, as the demands speak of it.
-- Assumes nothing.
use Rattle.std.specs.Prelude.{Bool, false, ◌||◌, List, [], ◌∷◌, ◌≡◌, ℕ, eqb, replicate}
use Rattle.promise.specs.Reply.{Reply, number_of}

-- done
abbrev pub Done : Reply → Type 0
Done said = number_of said ≡ 0

-- refused for a loop
abbrev pub RefusedForLoop : Reply → Type 0
RefusedForLoop said = number_of said ≡ 4

-- refused for anything else
abbrev pub RefusedElse : Reply → Type 0
RefusedElse said = (Done said → ⊥) × (RefusedForLoop said → ⊥)

-- a buffer of n numbers that holds 0 throughout
abbrev pub zeros : ℕ → List ℕ
zeros n = replicate n 0

-- n is one of the numbers listed
abbrev pub one_of : List ℕ → ℕ → Bool
one_of [] n = false
one_of (m ∷ ms) n = eqb n m || one_of ms n

-- what remains in the buffers: after 4 what is stated for it, after every other refusal what was lent, and when done what `AtDone` says
pub record Remains {B : Type 0} (said : Reply) (lent looped : B) (AtDone : B → Type 0) (after : B) : Type 0 where
  pub refused_else : RefusedElse said → after ≡ lent
  pub for_loop : RefusedForLoop said → after ≡ looped
  pub done : Done said → AtDone after
