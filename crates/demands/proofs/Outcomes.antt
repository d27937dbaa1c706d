-- DEMAND 1: every operation takes every grid, size, list and record, and what does not fit is refused by number, with fixed values and fixed buffer
-- contents. No operation asks anything of its caller (but the program's `answer`, for room), and each promise speaks of all inputs; here it is said that each admits one outcome only: one
-- reply, number and values, and one content of every lent buffer.
-- Assumes nothing.
use mathlib.Core.List.{List}
use Prim.Native.Nat.{ℕ}
use Rattle.promise.specs.Links.{AtMostOne}
use Rattle.answer.specs.Answer.{AnswerPromise}
use Rattle.answer.proofs.One.{answer_one}
use Rattle.checking.specs.Check.{CheckPromise}
use Rattle.checking.proofs.One.{check_one}
use Rattle.count.specs.Count.{CountPromise}
use Rattle.count.proofs.One.{count_one}
use Rattle.mend.specs.Mend.{MendPromise}
use Rattle.mend.proofs.One.{mend_one}
use Rattle.mosaic_join.specs.Joining.{JoinPromise, Work}
use Rattle.mosaic_join.proofs.One.{join_one}
use Rattle.tile_finish.specs.Finish.{FinishPromise}
use Rattle.tile_finish.proofs.One.{finish_one}
use Rattle.tile_record.specs.Record.{RecordPromise}
use Rattle.tile_record.proofs.One.{record_one}

-- whatever sides, grid and counts are lent
module _ (rows cols : ℕ) (grid counts : List ℕ) where
  pub counting_one_outcome : AtMostOne (CountPromise rows cols grid counts)
  counting_one_outcome = count_one rows cols grid counts

  pub checking_one_outcome : AtMostOne (CheckPromise rows cols grid counts)
  checking_one_outcome = check_one rows cols grid counts

  pub mending_one_outcome : (place code : ℕ) → AtMostOne (MendPromise rows cols grid counts place code)
  mending_one_outcome = mend_one rows cols grid counts

  pub finishing_one_outcome : (incoming work : List ℕ) → AtMostOne (FinishPromise rows cols grid incoming counts work)
  finishing_one_outcome incoming work = finish_one rows cols grid incoming counts work

pub recording_one_outcome : (rows cols tile_row tile_col : ℕ) (grid bytes work1 work2 : List ℕ) → AtMostOne (RecordPromise rows cols tile_row tile_col grid bytes work1 work2)
recording_one_outcome = record_one

-- whatever numbers of tile rows and tile columns, and whatever bytes for records
pub joining_one_outcome : (I J : ℕ) (bytes incoming : List ℕ) (work : Work) → AtMostOne (JoinPromise I J bytes incoming work)
joining_one_outcome = join_one

-- and whatever text
pub program_one_outcome : (text : List ℕ) → AtMostOne (AnswerPromise text)
program_one_outcome = answer_one
