-- DEMAND 1: what does not fit is refused, and nothing else is. Done is said exactly when all fits and there is no loop. (Of checking `check_done_iff` and of mending
-- `mend_done_iff`, in their crates, say it.)
-- Assumes nothing.
use mathlib.Core.List.{List}
use mathlib.Core.Logic.{◌↔◌}
use mathlib.Core.Path.{refl, ap}
use Prim.Native.Nat.{ℕ, ◌/◌, ◌%◌}
use Rattle.flow.specs.Net.{NoLoop}
use Rattle.flow.proofs.Loop.{first_loop_free}
use Rattle.promise.specs.Reply.{number_of}
use Rattle.promise.proofs.Apart.{other, unless_ok, unless_all_ok, unless_some_ok}
use Rattle.promise.proofs.Each.{unless_each, unless_all_each, unless_some_each}
use Rattle.sheet.specs.Sheet.{SheetNoLoop}
use Rattle.sheet.proofs.Passes.{counts_no_loop}
use Rattle.count.specs.Count.{CountPromise, CountOutcome}
use Rattle.mosaic_join.specs.Joining.{JoinPromise, JoinOutcome, Work}
use Rattle.mosaic_read.specs.Said.{borders, feeds_by}
use Rattle.mosaic_join.proofs.One.{exits_free}
use Rattle.tile_finish.specs.Finish.{FinishPromise, FinishOutcome}
use Rattle.tile_finish.proofs.One.{finished_no_loop}
use Rattle.tile_record.specs.Record.{RecordPromise, RecordOutcome}
use Rattle.demands.specs.Said.{Done}
use Rattle.demands.specs.Sheets.{Permitted, PermittedRecord, PermittedFinish, PermittedJoin}
use Rattle.demands.proofs.Numbers.{fault_refused}

module _ (rows cols : ℕ) (grid counts : List ℕ) (e : CountOutcome) (kept : CountPromise rows cols grid counts e) where
  pub counting_done_iff : Done e.said ↔ (Permitted rows cols grid counts × SheetNoLoop rows cols grid)
  counting_done_iff =
      let P : CountOutcome → Type 0 = λ e. Done e.said → Permitted rows cols grid counts × SheetNoLoop rows cols grid in (
        unless_each P (λ n. other refl) (λ a. unless_each P (λ n. other refl) (λ b. unless_all_each P (λ p f. other refl) (λ k. unless_some_each P (λ v l. other refl) (λ n d z.
            (record { shape = a; lengths = b; codes = k }, counts_no_loop rows cols grid b.grid_long e.counts d.equation))))) kept,
        λ (s, free). ap number_of (unless_some_ok (unless_all_ok (unless_ok (unless_ok kept s.shape) s.lengths) s.codes) (λ v first. first_loop_free free first)).said_is,
      )

module _ (rows cols tile_row tile_col : ℕ) (grid bytes work1 work2 : List ℕ) (e : RecordOutcome) (kept : RecordPromise rows cols tile_row tile_col grid bytes work1 work2 e) where
  pub recording_done_iff : Done e.said ↔ (PermittedRecord rows cols tile_row tile_col grid bytes work1 work2 × SheetNoLoop rows cols grid)
  recording_done_iff =
      let P : RecordOutcome → Type 0 = λ e. Done e.said → PermittedRecord rows cols tile_row tile_col grid bytes work1 work2 × SheetNoLoop rows cols grid in (
        unless_each P (λ n. other refl) (λ a. unless_each P (λ n. other refl) (λ b. unless_each P (λ n. other refl) (λ c. unless_all_each P (λ p f. other refl) (λ k.
            unless_some_each P (λ v l. other refl) (λ n d z. (record { shape = a; position = b; lengths = c; codes = k }, counts_no_loop rows cols grid c.grid_long d.counts d.equation)))))) kept,
        λ (s, free). ap number_of
            (unless_some_ok (unless_all_ok (unless_ok (unless_ok (unless_ok kept s.shape) s.position) s.lengths) s.codes) (λ v first. first_loop_free free first)).said_is,
      )

module _ (rows cols : ℕ) (grid incoming counts work : List ℕ) (e : FinishOutcome) (kept : FinishPromise rows cols grid incoming counts work e) where
  pub finishing_done_iff : Done e.said ↔ (PermittedFinish rows cols grid incoming counts work × SheetNoLoop rows cols grid)
  finishing_done_iff =
      let P : FinishOutcome → Type 0 = λ e. Done e.said → PermittedFinish rows cols grid incoming counts work × SheetNoLoop rows cols grid in (
        unless_each P (λ n. other refl) (λ a. unless_each P (λ n. other refl) (λ b. unless_all_each P (λ p f. other refl) (λ k. unless_all_each P (λ p f. other refl) (λ i.
            unless_some_each P (λ v l. other refl) (λ n d z. (record { shape = a; lengths = b; codes = k; incoming_ok = i }, finished_no_loop rows cols grid incoming b.grid_long e.counts d.equation)))))) kept,
        λ (s, free). ap number_of
            (unless_some_ok (unless_all_ok (unless_all_ok (unless_ok (unless_ok kept s.shape) s.lengths) s.codes) s.incoming_ok) (λ v first. first_loop_free free first)).said_is,
      )

module _ (I J : ℕ) (bytes incoming : List ℕ) (work : Work) (e : JoinOutcome) (kept : JoinPromise I J bytes incoming work e) where
  pub joining_done_iff : Done e.said ↔ (PermittedJoin I J bytes incoming work × NoLoop (borders I J bytes) (feeds_by I J bytes))
  joining_done_iff =
      let P : JoinOutcome → Type 0 = λ e. Done e.said → PermittedJoin I J bytes incoming work × NoLoop (borders I J bytes) (feeds_by I J bytes) in (
        unless_each P (λ n. other refl) (λ a. unless_all_each P (λ m f. fault_refused bytes (m / 4) (m % 4) 0 refl refl) (λ k. unless_each P (λ n. other refl) (λ b.
            unless_each P (λ n. other refl) (λ c. unless_some_each P (λ v l. other refl) (λ n d z. (record { shape = a; parts = k; end = b; lengths = c }, exits_free I J bytes n)))))) kept,
        λ (s, free). ap number_of (unless_some_ok (unless_ok (unless_ok (unless_all_ok (unless_ok kept s.shape) s.parts) s.end) s.lengths) (λ v first. first_loop_free free first)).said_is,
      )
