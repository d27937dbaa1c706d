-- What each operation promises to C and Rust: there is a reply with which the operation's promise holds, of it and of what the lent buffers hold afterwards, and the
-- call returns that reply's flat record.
-- Assumes nothing.
use Rattle.std.specs.Prelude.{List, ◌≡◌, ℕ}
use Rattle.checking.specs.Check.{CheckPromise}
use Rattle.count.specs.Count.{CountPromise, ends as count_ends}
use Rattle.mend.specs.Mend.{MendPromise, ends as mend_ends}
use Rattle.mosaic_join.specs.Joining.{JoinPromise, Work, ends as join_ends}
use Rattle.promise.specs.Reply.{Reply}
use Rattle.tile_finish.specs.Finish.{FinishPromise, ends as finish_ends}
use Rattle.tile_record.specs.Record.{RecordPromise, ends as record_ends}
use Rattle.drainage.specs.Flat.{flat}
use Rattle.drainage.specs.declared.reply.Flat.{Flat}

-- some reply is as `Promised` says, and `r` is its flat record
abbrev pub Returns : (Reply → Type 0) → Flat → Type 0
Returns Promised r = (s : Reply) × Promised s × (r ≡ flat s)

-- what is lent, what is returned, and what the buffers that can be written to hold then
abbrev pub CountCall : (rows cols : ℕ) (grid counts : List ℕ) → Flat → List ℕ → Type 0
CountCall rows cols grid counts r after = Returns (λ s. CountPromise rows cols grid counts (count_ends s after)) r

abbrev pub CheckCall : (rows cols : ℕ) (grid counts : List ℕ) → Flat → Type 0
CheckCall rows cols grid counts r = Returns (CheckPromise rows cols grid counts) r

abbrev pub MendCall : (rows cols : ℕ) (grid counts : List ℕ) (place code : ℕ) → Flat → List ℕ → List ℕ → Type 0
MendCall rows cols grid counts place code r grid_after after = Returns (λ s. MendPromise rows cols grid counts place code (mend_ends s grid_after after)) r

abbrev pub RecordCall : (rows cols tile_row tile_col : ℕ) (grid bytes work1 work2 : List ℕ) → Flat → List ℕ → List ℕ → List ℕ → Type 0
RecordCall rows cols tile_row tile_col grid bytes work1 work2 r bytes_after work1_after work2_after =
    Returns (λ s. RecordPromise rows cols tile_row tile_col grid bytes work1 work2 (record_ends s bytes_after work1_after work2_after)) r

abbrev pub FinishCall : (rows cols : ℕ) (grid incoming counts work : List ℕ) → Flat → List ℕ → List ℕ → Type 0
FinishCall rows cols grid incoming counts work r after work_after = Returns (λ s. FinishPromise rows cols grid incoming counts work (finish_ends s after work_after)) r

abbrev pub JoinCall : (tile_rows tile_cols : ℕ) (records incoming : List ℕ) (work : Work) → Flat → List ℕ → Work → Type 0
JoinCall tile_rows tile_cols records incoming work r after work_after = Returns (λ s. JoinPromise tile_rows tile_cols records incoming work (join_ends s after work_after)) r
