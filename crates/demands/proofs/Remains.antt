-- DEMAND 1: fixed buffer contents (paper 01, "Replies and what remains"). All refusals but 4 change no buffer. After 4, work buffers hold 0 throughout, and so
-- do the counts that counting or finishing would have written and the incoming that joining would have written; a record buffer is unchanged. Mending with 4
-- leaves grid and counts as they were lent. After 0 any extra work buffer holds 0. Checking is lent nothing to write to.
-- Assumes nothing.
use mathlib.Core.Bool.{true, false, true≢false}
use mathlib.Core.List.{List, [], ◌∷◌}
use mathlib.Core.Path.{◌≡◌, refl, sym, ap, ◌∙◌}
use Prim.Native.Nat.{ℕ, zero, suc, ◌*◌, ◌/◌, ◌%◌}
use native.Mathlib.Omega.{arith}
use Rattle.promise.specs.Reply.{Reply, number_of}
use Rattle.promise.specs.Reply.Reply.{reply}
use Rattle.promise.proofs.Each.{unless_each, unless_all_each, unless_some_each}
use Rattle.count.specs.Count.{CountPromise, CountOutcome}
use Rattle.mend.specs.Mend.{MendPromise, MendOutcome}
use Rattle.mend.proofs.Demands.{refused_as_lent}
use Rattle.mosaic_join.specs.Joining.{JoinPromise, JoinOutcome, Work, cleared, ends}
use Rattle.mosaic_read.specs.Said.{borders}
use Rattle.mosaic_read.specs.Read.{fault_at}
use Rattle.sheet.specs.Sheet.{SheetCounts}
use Rattle.tile_finish.specs.Finish.{FinishPromise, FinishOutcome}
use Rattle.tile_record.specs.Record.{RecordPromise, RecordOutcome}
use Rattle.demands.specs.Said.{Done, Remains, zeros, one_of}

-- what the link of a refusal, of 4 and of done says of the buffers
module _ {B : Type 0} {lent looped : B} {AtDone : B → Type 0} where
  lent_else : {n : ℕ} {vs : List ℕ} → one_of (0 ∷ 4 ∷ []) n ≡ false → Remains (reply n vs) lent looped AtDone lent
  lent_else {n} e =
      let other : (m : ℕ) → one_of (0 ∷ 4 ∷ []) m ≡ true → n ≡ m → ⊥ = λ m k h. true≢false (sym k ∙ ap (one_of (0 ∷ 4 ∷ [])) (sym h) ∙ e) in
      record { refused_else = λ h. refl; for_loop = λ h. absurd (other 4 refl h); done = λ h. absurd (other 0 refl h) }

  for_four : {vs : List ℕ} → Remains (reply 4 vs) lent looped AtDone looped
  for_four = record { refused_else = λ h. absurd (h.1 refl); for_loop = λ h. refl; done = λ h. absurd (let z : ◌≡◌ {A = ℕ} 4 0 = h in omega arith) }

  at_done : {said : Reply} {vs : List ℕ} {after : B} → said ≡ reply 0 vs → AtDone after → Remains said lent looped AtDone after
  at_done e a = record {
    refused_else = λ h. absurd (h.0 (ap number_of e));
    for_loop = λ h. absurd (let z : ◌≡◌ {A = ℕ} 0 4 = sym (ap number_of e) ∙ h in omega arith);
    done = λ h. a;
  }

-- counting: the counts
pub counting_remains : (rows cols : ℕ) (grid counts : List ℕ) (e : CountOutcome) → CountPromise rows cols grid counts e
    → Remains e.said counts (zeros (rows * cols)) (SheetCounts rows cols grid) e.counts
counting_remains rows cols grid counts e =
    let P : CountOutcome → Type 0 = λ e. Remains e.said counts (zeros (rows * cols)) (SheetCounts rows cols grid) e.counts in
    unless_each P (λ n. lent_else refl) (λ a. unless_each P (λ n. lent_else refl) (λ b. unless_all_each P (λ p f. lent_else refl) (λ k.
    unless_some_each P (λ v l. for_four) (λ n d. at_done d.said_is d.equation))))

-- mending: grid and counts
pub mending_remains : (rows cols : ℕ) (grid counts : List ℕ) (place code : ℕ) (e : MendOutcome) → MendPromise rows cols grid counts place code e
    → (Done e.said → ⊥) → (e.grid ≡ grid) × (e.counts ≡ counts)
mending_remains rows cols grid counts place code e kept = refused_as_lent rows cols grid counts place code e kept

-- writing a record: the record, and two work buffers
module _ (rows cols tile_row tile_col : ℕ) (grid bytes work1 work2 : List ℕ) where
  abbrev RecordRemains : RecordOutcome → Type 0
  RecordRemains e =
      Remains e.said (bytes, work1, work2) (bytes, zeros (rows * cols), zeros (rows * cols))
      (λ (b : List ℕ × List ℕ × List ℕ). (b.1 ≡ zeros (rows * cols)) × (b.2 ≡ zeros (rows * cols))) (e.bytes, e.work1, e.work2)

  pub recording_remains : (e : RecordOutcome) → RecordPromise rows cols tile_row tile_col grid bytes work1 work2 e → RecordRemains e
  recording_remains e =
      let P = RecordRemains in
      unless_each P (λ n. lent_else refl) (λ a. unless_each P (λ n. lent_else refl) (λ b. unless_each P (λ n. lent_else refl) (λ c.
      unless_all_each P (λ p f. lent_else refl) (λ k. unless_some_each P (λ v l. for_four) (λ n d. at_done d.said_is (d.work1_clear, d.work2_clear))))))

-- finishing: the counts and a work buffer; incoming is only read
module _ (rows cols : ℕ) (grid incoming counts work : List ℕ) where
  abbrev FinishRemains : FinishOutcome → Type 0
  FinishRemains e =
      Remains e.said (counts, work) (zeros (rows * cols), zeros (rows * cols))
      (λ (b : List ℕ × List ℕ). b.1 ≡ zeros (rows * cols)) (e.counts, e.work)

  pub finishing_remains : (e : FinishOutcome) → FinishPromise rows cols grid incoming counts work e → FinishRemains e
  finishing_remains e =
      let P = FinishRemains in
      unless_each P (λ n. lent_else refl) (λ a. unless_each P (λ n. lent_else refl) (λ b. unless_all_each P (λ p f. lent_else refl) (λ k.
      unless_all_each P (λ p f. lent_else refl) (λ l. unless_some_each P (λ v w. for_four) (λ n d. at_done d.said_is d.work_clear)))))

-- joining: incoming and five work buffers
module _ (I J : ℕ) (bytes incoming : List ℕ) (work : Work) where
  abbrev JoinRemains : JoinOutcome → Type 0
  JoinRemains e =
      Remains e.said (incoming, work) (zeros (borders I J bytes), cleared I J bytes)
      (λ (b : List ℕ × Work). b.1 ≡ cleared I J bytes) (e.incoming, e.work)

  fault_lent : (t part : ℕ) → JoinRemains (ends (fault_at bytes t part) incoming work)
  fault_lent t zero = lent_else refl
  fault_lent t (suc zero) = lent_else refl
  fault_lent t (suc (suc zero)) = lent_else refl
  fault_lent t (suc (suc (suc more))) = lent_else refl

  pub joining_remains : (e : JoinOutcome) → JoinPromise I J bytes incoming work e → JoinRemains e
  joining_remains e =
      let P = JoinRemains in
      unless_each P (λ n. lent_else refl) (λ a. unless_all_each P (λ m f. fault_lent (m / 4) (m % 4)) (λ k. unless_each P (λ n. lent_else refl) (λ b.
      unless_each P (λ n. lent_else refl) (λ c. unless_some_each P (λ v l. for_four) (λ n d. at_done d.said_is d.work_clear)))))
