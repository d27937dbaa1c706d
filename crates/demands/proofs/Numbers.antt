-- DEMAND 1: what is refused is refused by number. The numbers that each operation gives, and no others. (They are listed in the order of its tests; that order
-- is said by the chain of its promise.)
-- Assumes nothing.
use mathlib.Core.Bool.{true, false}
use mathlib.Core.List.{List, [], ◌∷◌}
use mathlib.Core.Path.{◌≡◌, refl, ap}
use Prim.Native.Nat.{ℕ, zero, suc, ◌/◌, ◌%◌}
use lib.Dec.{eqb}
use Rattle.promise.specs.Reply.{Reply, number_of}
use Rattle.promise.proofs.Apart.{other}
use Rattle.promise.proofs.Each.{unless_each, unless_all_each, unless_some_each}
use Rattle.checking.specs.Check.{CheckPromise}
use Rattle.count.specs.Count.{CountPromise, CountOutcome}
use Rattle.mend.specs.Mend.{MendPromise, MendOutcome}
use Rattle.mosaic_join.specs.Joining.{JoinPromise, JoinOutcome, Work}
use Rattle.mosaic_read.specs.Read.{fault_at}
use Rattle.tile_finish.specs.Finish.{FinishPromise, FinishOutcome}
use Rattle.tile_record.specs.Record.{RecordPromise, RecordOutcome}
use Rattle.demands.specs.Said.{one_of}

-- the numbers of each operation, 0 last
abbrev counting : List ℕ
counting = 1 ∷ 2 ∷ 3 ∷ 4 ∷ 0 ∷ []

abbrev checking : List ℕ
checking = 1 ∷ 2 ∷ 3 ∷ 5 ∷ 0 ∷ []

abbrev mending : List ℕ
mending = 1 ∷ 2 ∷ 3 ∷ 5 ∷ 6 ∷ 7 ∷ 4 ∷ 0 ∷ []

abbrev recording : List ℕ
recording = 1 ∷ 9 ∷ 2 ∷ 3 ∷ 4 ∷ 0 ∷ []

abbrev finishing : List ℕ
finishing = 1 ∷ 2 ∷ 3 ∷ 10 ∷ 4 ∷ 0 ∷ []

abbrev joining : List ℕ
joining = 9 ∷ 8 ∷ 2 ∷ 4 ∷ 0 ∷ []

pub counting_numbers : (rows cols : ℕ) (grid counts : List ℕ) (e : CountOutcome) → CountPromise rows cols grid counts e → one_of counting (number_of e.said) ≡ true
counting_numbers rows cols grid counts e =
    let P : CountOutcome → Type 0 = λ e. one_of counting (number_of e.said) ≡ true in
    unless_each P (λ n. refl) (λ a. unless_each P (λ n. refl) (λ b. unless_all_each P (λ p f. refl) (λ k. unless_some_each P (λ v l. refl) (λ n d.
    ap (λ (r : Reply). one_of counting (number_of r)) d.said_is))))

pub checking_numbers : (rows cols : ℕ) (grid counts : List ℕ) (said : Reply) → CheckPromise rows cols grid counts said → one_of checking (number_of said) ≡ true
checking_numbers rows cols grid counts said =
    let P : Reply → Type 0 = λ r. one_of checking (number_of r) ≡ true in
    unless_each P (λ n. refl) (λ a. unless_each P (λ n. refl) (λ b. unless_all_each P (λ p f. refl) (λ k. unless_all_each P (λ p f. refl) (λ l d.
    ap (λ (r : Reply). one_of checking (number_of r)) d))))

pub mending_numbers : (rows cols : ℕ) (grid counts : List ℕ) (place code : ℕ) (e : MendOutcome) → MendPromise rows cols grid counts place code e → one_of mending (number_of e.said) ≡ true
mending_numbers rows cols grid counts place code e =
    let P : MendOutcome → Type 0 = λ e. one_of mending (number_of e.said) ≡ true in
    unless_each P (λ n. refl) (λ a. unless_each P (λ n. refl) (λ b. unless_all_each P (λ p f. refl) (λ k. unless_all_each P (λ p f. refl) (λ l.
    unless_each P (λ n. refl) (λ i. unless_each P (λ n. refl) (λ j. unless_some_each P (λ v w. refl) (λ n d. ap (λ (r : Reply). one_of mending (number_of r)) d.said_is)))))))

pub recording_numbers : (rows cols tile_row tile_col : ℕ) (grid bytes work1 work2 : List ℕ) (e : RecordOutcome) → RecordPromise rows cols tile_row tile_col grid bytes work1 work2 e
    → one_of recording (number_of e.said) ≡ true
recording_numbers rows cols tile_row tile_col grid bytes work1 work2 e =
    let P : RecordOutcome → Type 0 = λ e. one_of recording (number_of e.said) ≡ true in
    unless_each P (λ n. refl) (λ a. unless_each P (λ n. refl) (λ b. unless_each P (λ n. refl) (λ c. unless_all_each P (λ p f. refl) (λ k.
    unless_some_each P (λ v l. refl) (λ n d. ap (λ (r : Reply). one_of recording (number_of r)) d.said_is)))))

pub finishing_numbers : (rows cols : ℕ) (grid incoming counts work : List ℕ) (e : FinishOutcome) → FinishPromise rows cols grid incoming counts work e
    → one_of finishing (number_of e.said) ≡ true
finishing_numbers rows cols grid incoming counts work e =
    let P : FinishOutcome → Type 0 = λ e. one_of finishing (number_of e.said) ≡ true in
    unless_each P (λ n. refl) (λ a. unless_each P (λ n. refl) (λ b. unless_all_each P (λ p f. refl) (λ k. unless_all_each P (λ p f. refl) (λ l.
    unless_some_each P (λ v w. refl) (λ n d. ap (λ (r : Reply). one_of finishing (number_of r)) d.said_is)))))

-- a part of a record that is not well formed is refused by 8 or 9
fault_number : (bytes : List ℕ) (t part : ℕ) → one_of joining (number_of (fault_at bytes t part)) ≡ true
fault_number bytes t zero = refl
fault_number bytes t (suc zero) = refl
fault_number bytes t (suc (suc zero)) = refl
fault_number bytes t (suc (suc (suc more))) = refl

-- and by no other
pub fault_refused : {X : Type 0} (bytes : List ℕ) (t part m : ℕ) → eqb 8 m ≡ false → eqb 9 m ≡ false → number_of (fault_at bytes t part) ≡ m → X
fault_refused bytes t zero m a b = other a
fault_refused bytes t (suc zero) m a b = other b
fault_refused bytes t (suc (suc zero)) m a b = other a
fault_refused bytes t (suc (suc (suc more))) m a b = other a

pub joining_numbers : (I J : ℕ) (bytes incoming : List ℕ) (work : Work) (e : JoinOutcome) → JoinPromise I J bytes incoming work e → one_of joining (number_of e.said) ≡ true
joining_numbers I J bytes incoming work e =
    let P : JoinOutcome → Type 0 = λ e. one_of joining (number_of e.said) ≡ true in
    unless_each P (λ n. refl) (λ a. unless_all_each P (λ m f. fault_number bytes (m / 4) (m % 4)) (λ k. unless_each P (λ n. refl) (λ b. unless_each P (λ n. refl) (λ c.
    unless_some_each P (λ v l. refl) (λ n d. ap (λ (r : Reply). one_of joining (number_of r)) d.said_is)))))
