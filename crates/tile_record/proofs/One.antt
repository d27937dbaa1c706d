-- The promise of writing a record admits one outcome only: the same reply, and the same contents of all buffers.
-- Assumes nothing.
use mathlib.Core.Bool.{cond}
use mathlib.Core.List.{List}
use mathlib.Core.Path.{◌≡◌, refl, sym, ap, ◌∙◌}
use Prim.Native.Nat.{ℕ, ◌*◌}
use lib.Dec.{eqb}
use lib.ListN.{length, get_or}
use Rattle.promise.specs.Links.{AtMostOne}
use Rattle.promise.specs.Reply.{Reply}
use Rattle.promise.specs.Reply.Reply.{reply}
use Rattle.promise.proofs.One.{unless_one, unless_one_met, unless_all_one, unless_some_one, one_value}
use Rattle.sheet.proofs.Unique.{loop_one, counts_one}
use Rattle.tile_bytes.specs.Bytes.{record_bytes}
use Rattle.tile_record.specs.Record.{RecordPromise, RecordOutcome, Recorded, record_reply, ends}
use Rattle.std.specs.Prelude.{Result, Ok, Err}
use Rattle.tile_record.specs.declared.RecordError.{RecordError}
use Rattle.tile_record.specs.declared.RecordError.TheVariants.{Shape, Layout, Length, Code, Loop}

-- the equation has one solution, so there is one record
pub recorded_one : (rows cols tile_row tile_col : ℕ) (grid : List ℕ) → length grid ≡ rows * cols → AtMostOne (Recorded rows cols tile_row tile_col grid)
recorded_one rows cols tile_row tile_col grid long e f a b =
    let counts : a.counts ≡ b.counts = counts_one rows cols grid a.counts b.counts long a.long b.long a.equation b.equation in
    let bytes : e.bytes ≡ f.bytes = a.bytes_are ∙ ap (record_bytes rows cols tile_row tile_col grid) counts ∙ sym b.bytes_are in
    let said : e.said ≡ f.said = a.said_is ∙ sym b.said_is in
    let work1 : e.work1 ≡ f.work1 = a.work1_clear ∙ sym b.work1_clear in
    let work2 : e.work2 ≡ f.work2 = a.work2_clear ∙ sym b.work2_clear in
    λ i. record { said = said i; bytes = bytes i; work1 = work1 i; work2 = work2 i }

-- ---- the paper's numbers and values tell the answers apart

answer_of : Reply → Result (Unit {0}) RecordError
answer_of (reply n vs) =
    cond (eqb n 0) (Ok tt)
    (cond (eqb n 1) (Err Shape) (cond (eqb n 2) (Err Length) (cond (eqb n 3) (Err (Code (get_or vs 0 0))) (cond (eqb n 9) (Err Layout) (Err (Loop (get_or vs 0 0) (get_or vs 1 0)))))))

answer_back : (r : Result (Unit {0}) RecordError) → answer_of (record_reply r) ≡ r
unfolding answer_of
answer_back (Ok done) = refl
answer_back (Err Shape) = refl
answer_back (Err Layout) = refl
answer_back (Err Length) = refl
answer_back (Err (Code place)) = refl
answer_back (Err (Loop place len)) = refl

-- an answer with what it leaves in the buffers
pub record Answer : Type 0 where
  pub answer : Result (Unit {0}) RecordError
  pub bytes_after : List ℕ
  pub work1_after : List ℕ
  pub work2_after : List ℕ

-- as an outcome
abbrev pub outcome : Answer → RecordOutcome
outcome a = ends (record_reply a.answer) a.bytes_after a.work1_after a.work2_after

module _ (rows cols tile_row tile_col : ℕ) (grid bytes work1 work2 : List ℕ) where
  pub record_one : AtMostOne (RecordPromise rows cols tile_row tile_col grid bytes work1 work2)
  record_one = unless_one (unless_one (unless_one_met (λ l. unless_all_one (unless_some_one (loop_one rows cols grid) (recorded_one rows cols tile_row tile_col grid l.grid_long)))))

  -- and of the answer itself
  pub record_answer_one : AtMostOne (λ (a : Answer). RecordPromise rows cols tile_row tile_col grid bytes work1 work2 (outcome a))
  record_answer_one =
      one_value outcome (λ e. record { answer = answer_of e.said; bytes_after = e.bytes; work1_after = e.work1; work2_after = e.work2 })
      (λ a i. record { answer = answer_back a.answer i; bytes_after = a.bytes_after; work1_after = a.work1_after; work2_after = a.work2_after })
      record_one
