-- What the functions that read a part of a record ask and promise. Nothing here is cited by a public promise.
-- Assumes nothing.
use Rattle.std.specs.Prelude.{Bool, true, false, List, ◌≡◌, ℕ, suc, ◌/◌, ◌%◌, ◌<◌, ◌≤◌, length}
use Rattle.flow.specs.Net.{sum}
use Rattle.promise.specs.Links.{FirstNot}
use Rattle.sheet.specs.Shape.{TileShape}
use Rattle.mosaic_read.specs.Records.{start_of, rows_of, cols_of, heights, widths, PartOk, RecordOk}
use Rattle.mosaic_read.specs.Read.{fault_at, fault_reply}
use Rattle.mosaic_read.specs.declared.ReadError.{ReadError}

-- a test says whether P holds
abbrev pub Says : Type 0 → Bool → Type 0
Says P true = P
Says P false = P → ⊥

-- record t has allowed sides, and the bytes go on to its end
pub record Whole (bytes : List ℕ) (t : ℕ) : Type 0 where
  pub shape : TileShape (rows_of bytes t) (cols_of bytes t)
  pub inside : start_of bytes (suc t) ≤ length bytes

-- so it is with each record before record t
abbrev pub WholeBefore : List ℕ → ℕ → Type 0
WholeBefore bytes t = (q : ℕ) → q < t → Whole bytes q

-- the records before record t are well formed, it begins at byte o, and the summed rows and columns of the tile rows above it and the tile columns to its left are within bounds
pub record Reached (bytes : List ℕ) (J t o above left : ℕ) : Type 0 where
  pub some_col : 1 ≤ J
  pub before : (q : ℕ) → q < t → RecordOk bytes J q
  pub start : o ≡ start_of bytes t
  pub above_is : above ≡ sum (t / J) (heights bytes J)
  pub left_is : left ≡ sum (t % J) (widths bytes)
  pub above_most : above ≤ 4096
  pub left_most : left ≤ 4096

-- e refuses record t for its first part that is not well formed
pub record FirstFault (bytes : List ℕ) (J t : ℕ) (e : ReadError) : Type 0 where
  pub part : ℕ
  pub first : FirstNot 4 (PartOk bytes J t) part
  pub told : fault_reply e ≡ fault_at bytes t part
