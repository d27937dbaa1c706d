-- Finishing refused for a loop: only where the tile has one, with the smallest place on any loop and that loop's length.
-- Assumes nothing.
use mathlib.Core.List.{List, [], ◌∷◌}
use mathlib.Core.Path.{◌≡◌, refl}
use Prim.Native.Nat.{ℕ}
use Rattle.promise.specs.Reply.{number_of}
use Rattle.promise.specs.Reply.Reply.{reply}
use Rattle.promise.proofs.Apart.{other, other_said}
use Rattle.promise.proofs.Each.{unless_each, unless_all_each, unless_some_each}
use Rattle.sheet.specs.Sheet.{LoopFound, LoopIn}
use Rattle.tile_finish.specs.Finish.{FinishPromise, FinishOutcome}

module _ (rows cols : ℕ) (grid incoming counts work : List ℕ) (e : FinishOutcome) (kept : FinishPromise rows cols grid incoming counts work e) where
  pub finish_loop : number_of e.said ≡ 4 → (v : LoopFound) × LoopIn rows cols grid v × (e.said ≡ reply 4 (v.place ∷ v.len ∷ []))
  finish_loop =
      let P : FinishOutcome → Type 0 = λ e. number_of e.said ≡ 4 → (v : LoopFound) × LoopIn rows cols grid v × (e.said ≡ reply 4 (v.place ∷ v.len ∷ [])) in
      unless_each P (λ n. other refl) (λ a. unless_each P (λ n. other refl) (λ b. unless_all_each P (λ p f. other refl) (λ k. unless_all_each P (λ p f. other refl) (λ i.
      unless_some_each P (λ v l h. (v, l, refl)) (λ n d. other_said refl d.said_is))))) kept
