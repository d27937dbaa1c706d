-- The promise of finishing admits one outcome only: the same reply, and the same contents of counts and work buffer.
-- Assumes nothing.
use mathlib.Core.Bool.{cond}
use mathlib.Core.List.{List}
use mathlib.Core.Path.{◌≡◌, refl, sym, ◌∙◌}
use Prim.Native.Nat.{ℕ, ◌+◌, ◌*◌}
use native.Mathlib.Omega.{arith}
use lib.Dec.{eqb}
use lib.ListN.{length, get_or}
use lib.Seq.{ext_get_or}
use Rattle.flow.proofs.Count.{counts_unique, weighted_no_loop}
use Rattle.promise.specs.Links.{AtMostOne}
use Rattle.promise.specs.Reply.{Reply}
use Rattle.promise.specs.Reply.Reply.{reply}
use Rattle.promise.proofs.One.{unless_one, unless_one_met, unless_all_one, unless_some_one, one_value}
use Rattle.sheet.specs.Sheet.{dest_of, unit, count_at, SheetNoLoop}
use Rattle.sheet.proofs.Dest.{dest_beyond, gives_unit}
use Rattle.sheet.proofs.Unique.{loop_one}
use Rattle.tile_finish.specs.Finish.{FinishPromise, Finished, FinishedCounts, comes_at, finish_reply, ends}
use Rattle.tile_finish.specs.declared.FinishError.{FinishError}
use Rattle.tile_finish.specs.declared.FinishError.TheVariants.{Shape, Length, Code, Loop, Incoming}
use Rattle.std.specs.Prelude.{Result, Ok, Err}

module _ (rows cols : ℕ) (grid incoming : List ℕ) (long : length grid ≡ rows * cols) where
  -- counts that satisfy the equation leave no room for a loop
  pub finished_no_loop : (c : List ℕ) → FinishedCounts rows cols grid incoming c → SheetNoLoop rows cols grid
  finished_no_loop c h =
      weighted_no_loop (rows * cols) (dest_of rows cols grid) (dest_beyond rows cols grid long) (λ p. unit grid p + comes_at rows cols incoming p) (count_at c) h
      (λ p l b. omega (arith, (gives_unit rows cols grid p l b).0))

  pub finished_counts_one : (c d : List ℕ) → length c ≡ rows * cols → length d ≡ rows * cols → FinishedCounts rows cols grid incoming c → FinishedCounts rows cols grid incoming d → c ≡ d
  finished_counts_one c d lc ld a b =
      ext_get_or 0 c d (lc ∙ sym ld) (λ q h. counts_unique (rows * cols) (dest_of rows cols grid) (dest_beyond rows cols grid long) (finished_no_loop c a) (λ p. unit grid p + comes_at rows cols incoming p) (count_at c) (count_at d) a b q (rw lc at h))

  -- the equation has one solution, the work buffer is cleared, and the reply is given
  pub finished_one : AtMostOne (Finished rows cols grid incoming)
  finished_one e f a b =
      let counts : e.counts ≡ f.counts = finished_counts_one e.counts f.counts a.long b.long a.equation b.equation in
      let said : e.said ≡ f.said = a.said_is ∙ sym b.said_is in
      let work : e.work ≡ f.work = a.work_clear ∙ sym b.work_clear in
      λ i. record { said = said i; counts = counts i; work = work i }

-- ---- the paper's numbers and values tell the answers apart

answer_of : Reply → Result (Unit {0}) FinishError
answer_of (reply n vs) =
    cond (eqb n 0) (Ok tt)
    (cond (eqb n 1) (Err Shape) (cond (eqb n 2) (Err Length) (cond (eqb n 3) (Err (Code (get_or vs 0 0))) (cond (eqb n 4) (Err (Loop (get_or vs 0 0) (get_or vs 1 0))) (Err (Incoming (get_or vs 0 0)))))))

answer_back : (r : Result (Unit {0}) FinishError) → answer_of (finish_reply r) ≡ r
unfolding answer_of
answer_back (Ok done) = refl
answer_back (Err Shape) = refl
answer_back (Err Length) = refl
answer_back (Err (Code place)) = refl
answer_back (Err (Loop place len)) = refl
answer_back (Err (Incoming border)) = refl

-- an answer with the counts and the work buffer that it leaves
pub record Answer : Type 0 where
  pub answer : Result (Unit {0}) FinishError
  pub counts_after : List ℕ
  pub work_after : List ℕ

module _ (rows cols : ℕ) (grid incoming counts work : List ℕ) where
  pub finish_one : AtMostOne (FinishPromise rows cols grid incoming counts work)
  finish_one =
      unless_one (unless_one_met (λ l. unless_all_one (unless_all_one (unless_some_one (loop_one rows cols grid) (finished_one rows cols grid incoming l.grid_long)))))

  -- and of the answer itself
  pub finish_answer_one : AtMostOne (λ (a : Answer). FinishPromise rows cols grid incoming counts work (ends (finish_reply a.answer) a.counts_after a.work_after))
  finish_answer_one =
      one_value (λ a. ends (finish_reply a.answer) a.counts_after a.work_after) (λ e. record { answer = answer_of e.said; counts_after = e.counts; work_after = e.work })
      (λ a i. record { answer = answer_back a.answer i; counts_after = a.counts_after; work_after = a.work_after })
      finish_one
