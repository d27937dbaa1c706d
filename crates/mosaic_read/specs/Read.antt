-- The promise of reading the records of a mosaic (paper 01, "Replies and what remains"): records in turn, 8 or 9 whichever is met first. Reading writes to
-- no buffer, so an outcome is a reply. The refusals stand in a chain of their own, for every kind of outcome, so that joining has them among its own.
-- Assumes nothing.
use Rattle.std.specs.Prelude.{Result, Ok, Err, List, [], ◌∷◌, ◌≡◌, ℕ, zero, suc, ◌*◌, ◌/◌, ◌%◌, ◌≤◌, length}
use Rattle.flow.specs.Net.{sum}
use Rattle.promise.specs.Links.{Unless, UnlessAll, Exactly, ◌then◌}
use Rattle.promise.specs.Reply.{Reply}
use Rattle.promise.specs.Reply.Reply.{reply}
use Rattle.mosaic_read.specs.Records.{start_of, borders_of, counts_start, ways_start, PartOk}
use Rattle.mosaic_read.specs.declared.ReadError.{ReadError}
use Rattle.mosaic_read.specs.declared.ReadError.TheVariants.{Record, Layout}

-- the mosaic's own numbers: at least one tile row and one tile column, at most 64 tiles
pub record MosaicShape (I J : ℕ) : Type 0 where
  pub some_row : 1 ≤ I
  pub some_col : 1 ≤ J
  pub tiles_most : I * J ≤ 64

-- the paper's number and values for each refusal; done, which is not one of the paper's, has the number of border cells
abbrev pub fault_reply : ReadError → Reply
fault_reply (Record byte) = reply 8 (byte ∷ [])
fault_reply (Layout byte) = reply 9 (byte ∷ [])

abbrev pub read_reply : Result ℕ ReadError → Reply
read_reply (Ok borders) = reply 0 (borders ∷ [])
read_reply (Err e) = fault_reply e

-- the refusal of a part of record t that is not well formed: 8 at the first byte of the field at fault, 9 at the record's first byte
abbrev pub fault_at : (bytes : List ℕ) (t part : ℕ) → Reply
fault_at bytes t zero = reply 8 (start_of bytes t ∷ [])
fault_at bytes t (suc zero) = reply 9 (start_of bytes t ∷ [])
fault_at bytes t (suc (suc zero)) = reply 8 (counts_start (start_of bytes t) ∷ [])
fault_at bytes t (suc (suc (suc more))) = reply 8 (ways_start (start_of bytes t) (borders_of bytes t) ∷ [])

-- unless each record is well formed, the first part of the first that is not is refused; unless the last record ends the bytes, the byte after it.
-- Parts are numbered from record to record, four to each.
abbrev pub UnlessRecords : {R : Type 0} (I J : ℕ) (bytes : List ℕ) → (Reply → R) → (R → Type 0) → R → Type 0
UnlessRecords I J bytes refusal Rest =
    UnlessAll (4 * (I * J)) (λ m. PartOk bytes J (m / 4) (m % 4)) (λ m. refusal (fault_at bytes (m / 4) (m % 4))) then
    Unless (length bytes ≡ start_of bytes (I * J)) (refusal (reply 8 (start_of bytes (I * J) ∷ []))) then
    Rest

abbrev pub ReadPromise : (I J : ℕ) (bytes : List ℕ) → Reply → Type 0
ReadPromise I J bytes = UnlessRecords I J bytes (λ r. r) then Exactly (reply 0 (sum (I * J) (borders_of bytes) ∷ []))
