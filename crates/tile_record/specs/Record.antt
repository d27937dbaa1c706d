-- The promise of writing a tile's border record (paper 01, "Replies and what remains"): 1, 9, 2, 3, 4, done.
-- Assumes nothing.
use Rattle.std.specs.Prelude.{Result, Ok, Err, List, [], ◌∷◌, ◌≡◌, ℕ, ◌*◌, ◌≤◌, length, replicate}
use Rattle.promise.specs.Links.{Unless, UnlessAll, UnlessSome, ◌then◌}
use Rattle.promise.specs.Reply.{Reply}
use Rattle.promise.specs.Reply.Reply.{reply}
use Rattle.sheet.specs.Shape.{TileShape}
use Rattle.sheet.specs.Sheet.{CodeOk, SheetCounts, LoopIn}
use Rattle.tile_bytes.specs.Bytes.{record_bytes, record_length}
use Rattle.tile_record.specs.declared.RecordError.{RecordError}
use Rattle.tile_record.specs.declared.RecordError.TheVariants.{Shape, Layout, Length, Code, Loop}

-- the paper's number and values for each answer; 9 is returned with 0, the first byte of the one record
abbrev pub record_reply : Result (Unit {0}) RecordError → Reply
record_reply (Ok done) = reply 0 []
record_reply (Err Shape) = reply 1 []
record_reply (Err Layout) = reply 9 (0 ∷ [])
record_reply (Err Length) = reply 2 []
record_reply (Err (Code place)) = reply 3 (place ∷ [])
record_reply (Err (Loop place len)) = reply 4 (place ∷ len ∷ [])

-- an outcome: what is said, and what the record's bytes and the two work buffers then hold
pub record RecordOutcome : Type 0 where
  pub said : Reply
  pub bytes : List ℕ
  pub work1 : List ℕ
  pub work2 : List ℕ

abbrev pub ends : Reply → List ℕ → List ℕ → List ℕ → RecordOutcome
ends said bytes work1 work2 = record { said = said; bytes = bytes; work1 = work1; work2 = work2 }

-- a work buffer that holds 0 throughout
abbrev pub cleared : (rows cols : ℕ) → List ℕ
cleared rows cols = replicate (rows * cols) 0

-- the tile's position in a mosaic of at most 64 tiles
pub record TilePosition (tile_row tile_col : ℕ) : Type 0 where
  pub row_most : tile_row ≤ 63
  pub col_most : tile_col ≤ 63

-- each lent buffer has the stated length
pub record RecordLengths (rows cols : ℕ) (grid bytes work1 work2 : List ℕ) : Type 0 where
  pub grid_long : length grid ≡ rows * cols
  pub bytes_long : length bytes ≡ record_length rows cols
  pub work1_long : length work1 ≡ rows * cols
  pub work2_long : length work2 ≡ rows * cols

-- done: the record is that of the tile counted by itself, and the work buffers hold 0 throughout
pub record Recorded (rows cols tile_row tile_col : ℕ) (grid : List ℕ) (e : RecordOutcome) : Type 0 where
  pub counts : List ℕ
  pub long : length counts ≡ rows * cols
  pub equation : SheetCounts rows cols grid counts
  pub bytes_are : e.bytes ≡ record_bytes rows cols tile_row tile_col grid counts
  pub said_is : e.said ≡ reply 0 []
  pub work1_clear : e.work1 ≡ cleared rows cols
  pub work2_clear : e.work2 ≡ cleared rows cols

-- of a tile without bad codes: 4, done. After 4 the work buffers hold 0 throughout, and the bytes are as they were lent
abbrev pub RecordAnswer : (rows cols tile_row tile_col : ℕ) (grid bytes : List ℕ) → RecordOutcome → Type 0
RecordAnswer rows cols tile_row tile_col grid bytes =
    UnlessSome (LoopIn rows cols grid) (λ v. ends (reply 4 (v.place ∷ v.len ∷ [])) bytes (cleared rows cols) (cleared rows cols)) then
    Recorded rows cols tile_row tile_col grid

-- of a tile whose shape, position and lengths fit: 3, 4, done
abbrev pub RecordCells : (rows cols tile_row tile_col : ℕ) (grid bytes work1 work2 : List ℕ) → RecordOutcome → Type 0
RecordCells rows cols tile_row tile_col grid bytes work1 work2 =
    UnlessAll (rows * cols) (CodeOk grid) (λ p. ends (reply 3 (p ∷ [])) bytes work1 work2) then
    RecordAnswer rows cols tile_row tile_col grid bytes

-- writing a record: 1, 9, 2, 3, 4, done. After 1, 9, 2 and 3 all buffers are as they were lent
abbrev pub RecordPromise : (rows cols tile_row tile_col : ℕ) (grid bytes work1 work2 : List ℕ) → RecordOutcome → Type 0
RecordPromise rows cols tile_row tile_col grid bytes work1 work2 =
    Unless (TileShape rows cols) (ends (reply 1 []) bytes work1 work2) then
    Unless (TilePosition tile_row tile_col) (ends (reply 9 (0 ∷ [])) bytes work1 work2) then
    Unless (RecordLengths rows cols grid bytes work1 work2) (ends (reply 2 []) bytes work1 work2) then
    RecordCells rows cols tile_row tile_col grid bytes work1 work2
