-- The promise of counting admits one outcome only: the same reply, and the same contents of the counts.
-- Assumes nothing.
use mathlib.Core.Bool.{cond}
use mathlib.Core.List.{List}
use mathlib.Core.Path.{◌≡◌, refl, sym, ◌∙◌}
use Prim.Native.Nat.{ℕ, ◌*◌}
use lib.Dec.{eqb}
use lib.ListN.{length, get_or}
use Rattle.promise.specs.Links.{AtMostOne}
use Rattle.promise.specs.Reply.{Reply}
use Rattle.promise.specs.Reply.Reply.{reply}
use Rattle.promise.proofs.One.{unless_one, unless_one_met, unless_all_one, unless_some_one, one_value}
use Rattle.sheet.proofs.Unique.{loop_one, counts_one}
use Rattle.count.specs.Count.{CountPromise, Counted, count_reply, ends}
use Rattle.count.specs.declared.Totals.{Totals}
use Rattle.count.specs.declared.CountError.{CountError}
use Rattle.count.specs.declared.CountError.TheVariants.{Shape, Length, Code, Loop}
use Rattle.std.specs.Prelude.{Result, Ok, Err}

-- the equation has one solution, and the reply is given
pub counted_one : (rows cols : ℕ) (grid : List ℕ) → length grid ≡ rows * cols → AtMostOne (Counted rows cols grid)
counted_one rows cols grid long e f a b =
    let counts : e.counts ≡ f.counts = counts_one rows cols grid e.counts f.counts long a.long b.long a.equation b.equation in
    let said : e.said ≡ f.said = a.said_is ∙ rw counts (sym b.said_is) in
    λ i. record { said = said i; counts = counts i }

-- ---- the paper's numbers and values tell the answers apart

answer_of : Reply → Result Totals CountError
answer_of (reply n vs) =
    cond (eqb n 0) (Ok (record { land = get_or vs 0 0; outlets = get_or vs 1 0; greatest = get_or vs 2 0 }))
    (Err (cond (eqb n 1) Shape (cond (eqb n 2) Length (cond (eqb n 3) (Code (get_or vs 0 0)) (Loop (get_or vs 0 0) (get_or vs 1 0))))))

answer_back : (r : Result Totals CountError) → answer_of (count_reply r) ≡ r
unfolding answer_of
answer_back (Ok t) = refl
answer_back (Err Shape) = refl
answer_back (Err Length) = refl
answer_back (Err (Code place)) = refl
answer_back (Err (Loop place len)) = refl

-- an answer with the counts that it leaves
pub record Answer : Type 0 where
  pub answer : Result Totals CountError
  pub counts_after : List ℕ

module _ (rows cols : ℕ) (grid counts : List ℕ) where
  pub count_one : AtMostOne (CountPromise rows cols grid counts)
  count_one = unless_one (unless_one_met (λ l. unless_all_one (unless_some_one (loop_one rows cols grid) (counted_one rows cols grid l.grid_long))))

  -- and of the answer itself
  pub count_answer_one : AtMostOne (λ (a : Answer). CountPromise rows cols grid counts (ends (count_reply a.answer) a.counts_after))
  count_answer_one =
      one_value (λ a. ends (count_reply a.answer) a.counts_after) (λ e. record { answer = answer_of e.said; counts_after = e.counts })
      (λ a i. record { answer = answer_back a.answer i; counts_after = a.counts_after })
      count_one
