-- DEMAND 2, of refusal 4 (paper 01, "Replies and what remains"): what is returned with it is the smallest place on any loop and that loop's length, in joining the
-- first exit on any loop and the number of exits on its loop; and where no refusal before it applies it is given exactly when there is a loop. (Of counting and
-- mending the latter stands in Counting.antt and Mending.antt.)
-- Assumes nothing.
use mathlib.Core.List.{List, [], ◌∷◌}
use mathlib.Core.Logic.{◌↔◌}
use mathlib.Core.Path.{◌≡◌, refl}
use Prim.Native.Nat.{ℕ, ◌/◌, ◌%◌}
use Rattle.promise.specs.Reply.{Reply}
use Rattle.promise.specs.Reply.Reply.{reply}
use Rattle.promise.proofs.Apart.{other, other_said, unless_ok, unless_all_ok}
use Rattle.promise.proofs.Each.{unless_each, unless_all_each, unless_some_each}
use Rattle.sheet.specs.Sheet.{LoopFound, LoopIn}
use Rattle.sheet.proofs.Passes.{counts_no_loop}
use Rattle.count.specs.Count.{CountPromise, CountOutcome}
use Rattle.mend.specs.Mend.{MendPromise, MendOutcome, changed}
use Rattle.mosaic_join.specs.Joining.{JoinPromise, JoinOutcome, Work, ExitLoop}
use Rattle.mosaic_join.proofs.One.{exits_free}
use Rattle.mosaic_read.specs.Said.{record_of, number_in}
use Rattle.tile_finish.specs.Finish.{FinishPromise, FinishOutcome}
use Rattle.tile_finish.proofs.One.{finished_no_loop}
use Rattle.tile_finish.proofs.Refused.{finish_loop}
use Rattle.tile_record.specs.Record.{RecordPromise, RecordOutcome}
use Rattle.demands.specs.Said.{RefusedForLoop}
use Rattle.demands.specs.Sheets.{PermittedRecord, PermittedFinish, PermittedJoin, ArrowsFormLoop, ExitsFormLoop}
use Rattle.demands.proofs.Numbers.{fault_refused}

-- a reply of 4 returns the smallest place on any loop of a grid, and that loop's length
abbrev LoopReturned : (rows cols : ℕ) (grid : List ℕ) → Reply → Type 0
LoopReturned rows cols grid said = RefusedForLoop said → (v : LoopFound) × LoopIn rows cols grid v × (said ≡ reply 4 (v.place ∷ v.len ∷ []))

pub counting_loop_returned : (rows cols : ℕ) (grid counts : List ℕ) (e : CountOutcome) → CountPromise rows cols grid counts e → LoopReturned rows cols grid e.said
counting_loop_returned rows cols grid counts e =
    let P : CountOutcome → Type 0 = λ e. LoopReturned rows cols grid e.said in
    unless_each P (λ n. other refl) (λ a. unless_each P (λ n. other refl) (λ b. unless_all_each P (λ p f. other refl) (λ k.
    unless_some_each P (λ v l h. (v, l, refl)) (λ n d. other_said refl d.said_is))))

pub mending_loop_returned : (rows cols : ℕ) (grid counts : List ℕ) (place code : ℕ) (e : MendOutcome) → MendPromise rows cols grid counts place code e
    → LoopReturned rows cols (changed grid place code) e.said
mending_loop_returned rows cols grid counts place code e =
    let P : MendOutcome → Type 0 = λ e. LoopReturned rows cols (changed grid place code) e.said in
    unless_each P (λ n. other refl) (λ a. unless_each P (λ n. other refl) (λ b. unless_all_each P (λ p f. other refl) (λ k. unless_all_each P (λ p f. other refl) (λ l.
    unless_each P (λ n. other refl) (λ i. unless_each P (λ n. other refl) (λ j. unless_some_each P (λ v w h. (v, w, refl)) (λ n d. other_said refl d.said_is)))))))

module _ (rows cols tile_row tile_col : ℕ) (grid bytes work1 work2 : List ℕ) (e : RecordOutcome) (kept : RecordPromise rows cols tile_row tile_col grid bytes work1 work2 e) where
  pub recording_loop_returned : LoopReturned rows cols grid e.said
  recording_loop_returned =
      let P : RecordOutcome → Type 0 = λ e. LoopReturned rows cols grid e.said in
      unless_each P (λ n. other refl) (λ a. unless_each P (λ n. other refl) (λ b. unless_each P (λ n. other refl) (λ c. unless_all_each P (λ p f. other refl) (λ k.
      unless_some_each P (λ v l h. (v, l, refl)) (λ n d. other_said refl d.said_is))))) kept

  pub recording_refused_exactly_for_a_loop : PermittedRecord rows cols tile_row tile_col grid bytes work1 work2 → RefusedForLoop e.said ↔ ArrowsFormLoop rows cols grid
  recording_refused_exactly_for_a_loop s =
      let P : RecordOutcome → Type 0 = λ e. ArrowsFormLoop rows cols grid → RefusedForLoop e.said in (
        λ four. let (v, l, is) = recording_loop_returned four in (v.place, l.here),
        unless_some_each P (λ v l o. refl) (λ n d o. absurd (counts_no_loop rows cols grid s.lengths.grid_long d.counts d.equation o.0 o.1.0 o.1.1))
            (unless_all_ok (unless_ok (unless_ok (unless_ok kept s.shape) s.position) s.lengths) s.codes),
      )

module _ (rows cols : ℕ) (grid incoming counts work : List ℕ) (e : FinishOutcome) (kept : FinishPromise rows cols grid incoming counts work e) where
  pub finishing_loop_returned : LoopReturned rows cols grid e.said
  finishing_loop_returned = finish_loop rows cols grid incoming counts work e kept

  pub finishing_refused_exactly_for_a_loop : PermittedFinish rows cols grid incoming counts work → RefusedForLoop e.said ↔ ArrowsFormLoop rows cols grid
  finishing_refused_exactly_for_a_loop s =
      let P : FinishOutcome → Type 0 = λ e. ArrowsFormLoop rows cols grid → RefusedForLoop e.said in (
        λ four. let (v, l, is) = finishing_loop_returned four in (v.place, l.here),
        unless_some_each P (λ v l o. refl) (λ n d o. absurd (finished_no_loop rows cols grid incoming s.lengths.grid_long e.counts d.equation o.0 o.1.0 o.1.1))
            (unless_all_ok (unless_all_ok (unless_ok (unless_ok kept s.shape) s.lengths) s.codes) s.incoming_ok),
      )

module _ (I J : ℕ) (bytes incoming : List ℕ) (work : Work) (e : JoinOutcome) (kept : JoinPromise I J bytes incoming work e) where
  abbrev ExitLoopReturned : Reply → Type 0
  ExitLoopReturned said =
      RefusedForLoop said → (v : LoopFound) × ExitLoop I J bytes v × (said ≡ reply 4 (record_of bytes I J v.place ∷ number_in bytes I J v.place ∷ v.len ∷ []))

  pub joining_loop_returned : ExitLoopReturned e.said
  joining_loop_returned =
      let P : JoinOutcome → Type 0 = λ e. ExitLoopReturned e.said in
      unless_each P (λ n. other refl) (λ a. unless_all_each P (λ m f. fault_refused bytes (m / 4) (m % 4) 4 refl refl) (λ k. unless_each P (λ n. other refl) (λ b.
      unless_each P (λ n. other refl) (λ c. unless_some_each P (λ v l h. (v, l, refl)) (λ n d. other_said refl d.said_is))))) kept

  pub joining_refused_exactly_for_a_loop : PermittedJoin I J bytes incoming work → RefusedForLoop e.said ↔ ExitsFormLoop I J bytes
  joining_refused_exactly_for_a_loop s =
      let P : JoinOutcome → Type 0 = λ e. ExitsFormLoop I J bytes → RefusedForLoop e.said in (
        λ four. let (v, l, is) = joining_loop_returned four in (v.place, l.here),
        unless_some_each P (λ v l o. refl) (λ n d o. absurd (exits_free I J bytes n o.0 o.1.0 o.1.1))
            (unless_ok (unless_ok (unless_all_ok (unless_ok kept s.shape) s.parts) s.end) s.lengths),
      )
