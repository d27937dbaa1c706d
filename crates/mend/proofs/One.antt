-- The promise of mending admits one outcome only: one reply, one answer of the code, and one content of grid and counts.
-- Assumes nothing.
use mathlib.Core.Bool.{cond}
use mathlib.Core.List.{List}
use mathlib.Core.Path.{◌≡◌, refl, sym, ◌∙◌}
use Prim.Native.Nat.{ℕ, ◌*◌}
use lib.Dec.{eqb}
use lib.ListN.{length, get_or, length-set}
use Rattle.promise.specs.Links.{AtMostOne}
use Rattle.promise.specs.Reply.{Reply}
use Rattle.promise.specs.Reply.Reply.{reply}
use Rattle.promise.proofs.One.{unless_one, unless_one_met, unless_all_one, unless_some_one, one_value}
use Rattle.sheet.proofs.Unique.{loop_one, counts_one}
use Rattle.mend.specs.Mend.{MendPromise, Mended, changed, ends}
use Rattle.std.specs.Prelude.{Result, Ok, Err}
use Rattle.mend.specs.Reply.{mend_reply}
use Rattle.mend.specs.declared.error.MendError.{MendError}
use Rattle.mend.specs.declared.error.MendError.TheVariants.{Shape, Length, Code, Count, Place, NewCode, Loop}

-- the paper's number and values tell the answers apart
answer_of : Reply → Result (Unit {0}) MendError
answer_of (reply n vs) =
    cond (eqb n 0) (Ok tt)
    (Err (cond (eqb n 1) Shape
    (cond (eqb n 2) Length
    (cond (eqb n 3) (Code (get_or vs 0 0))
    (cond (eqb n 4) (Loop (get_or vs 0 0) (get_or vs 1 0))
    (cond (eqb n 5) (Count (get_or vs 0 0))
    (cond (eqb n 6) Place NewCode)))))))

answer_back : (r : Result (Unit {0}) MendError) → answer_of (mend_reply r) ≡ r
unfolding answer_of
answer_back (Ok tt) = refl
answer_back (Err Shape) = refl
answer_back (Err Length) = refl
answer_back (Err (Code p)) = refl
answer_back (Err (Loop p len)) = refl
answer_back (Err (Count p)) = refl
answer_back (Err Place) = refl
answer_back (Err NewCode) = refl

-- an answer with the grid and the counts that it leaves
pub record Answer : Type 0 where
  pub answer : Result (Unit {0}) MendError
  pub grid_after : List ℕ
  pub counts_after : List ℕ

mended_one : (rows cols : ℕ) (grid : List ℕ) (place code : ℕ) → length grid ≡ rows * cols → AtMostOne (Mended rows cols grid place code)
mended_one rows cols grid place code long e f a b =
    let counts : e.counts ≡ f.counts = counts_one rows cols (changed grid place code) e.counts f.counts (simp length-set long) a.long b.long a.equation b.equation in
    let stored : e.grid ≡ f.grid = a.stored ∙ sym b.stored in
    let said : e.said ≡ f.said = a.said_is ∙ sym b.said_is in
    λ i. record { said = said i; grid = stored i; counts = counts i }

module _ (rows cols : ℕ) (grid counts : List ℕ) (place code : ℕ) where
  pub mend_one : AtMostOne (MendPromise rows cols grid counts place code)
  mend_one =
      unless_one (unless_one_met (λ l.
      unless_all_one (unless_all_one (unless_one (unless_one
      (unless_some_one (loop_one rows cols (changed grid place code)) (mended_one rows cols grid place code l.grid_long)))))))

  -- and of the answer itself
  pub mend_answer_one : AtMostOne (λ (a : Answer). MendPromise rows cols grid counts place code (ends (mend_reply a.answer) a.grid_after a.counts_after))
  mend_answer_one =
      one_value (λ a. ends (mend_reply a.answer) a.grid_after a.counts_after)
      (λ e. record { answer = answer_of e.said; grid_after = e.grid; counts_after = e.counts })
      (λ a i. record { answer = answer_back a.answer i; grid_after = a.grid_after; counts_after = a.counts_after })
      mend_one
