-- A sheet counted in tiles (paper 01, "Demand 2 over tiles"): one sheet of allowed shape without bad codes, cut by full rows and columns into an allowed
-- mosaic; the record of each tile written, the records joined, and each tile finished. Each step is told by its promise, with buffers of the stated lengths.
-- Assumes nothing.
use Rattle.std.specs.Prelude.{List, ◌⊎◌, ◌≡◌, ℕ, ◌+◌, ◌*◌, ◌/◌, ◌%◌, ◌<◌, length}
use Rattle.mosaic.specs.Layout.{Fits, Cut, sheet_rows, sheet_cols, height_of, width_of, borders_in, borders_before, all_borders}
use Rattle.mosaic_join.specs.Joining.{JoinOutcome, JoinPromise, Work}
use Rattle.promise.specs.Reply.{number_of}
use Rattle.sheet.specs.Sheet.{CodeOk, count_at, SheetOnLoop}
use Rattle.tile_finish.specs.Finish.{FinishOutcome, FinishLengths, FinishPromise}
use Rattle.tile_bytes.specs.Bytes.{each}
use Rattle.tile_record.specs.Record.{RecordOutcome, RecordLengths, RecordPromise}

module _ (I J : ℕ) (hs ws : ℕ → ℕ) (sheet : List ℕ) (tiles : ℕ → List ℕ) where
  -- the sheet, and its tiles
  pub record CutSheet : Type 0 where
    pub fits : Fits I J hs ws
    pub cut : Cut I J hs ws sheet tiles
    pub codes : (p : ℕ) → p < sheet_rows I hs * sheet_cols J ws → CodeOk sheet p

  -- the record of each tile is written
  pub record Writing : Type 0 where
    pub bytes : ℕ → List ℕ
    pub work1 : ℕ → List ℕ
    pub work2 : ℕ → List ℕ
    pub long : (t : ℕ) → t < I * J → RecordLengths (height_of J hs t) (width_of J ws t) (tiles t) (bytes t) (work1 t) (work2 t)
    pub written : ℕ → RecordOutcome
    pub outcome : (t : ℕ) → t < I * J → RecordPromise (height_of J hs t) (width_of J ws t) (t / J) (t % J) (tiles t) (bytes t) (work1 t) (work2 t) (written t)

  -- the records, tile row by tile row
  abbrev pub records_of : Writing → List ℕ
  records_of w = each (I * J) (λ t. (w.written t).bytes)

  -- they are joined
  pub record Joining (w : Writing) : Type 0 where
    pub incoming : List ℕ
    pub work : Work
    pub incoming_long : length incoming ≡ all_borders I J hs ws
    pub work1_long : length work.work1 ≡ all_borders I J hs ws
    pub work2_long : length work.work2 ≡ all_borders I J hs ws
    pub work3_long : length work.work3 ≡ all_borders I J hs ws
    pub work4_long : length work.work4 ≡ all_borders I J hs ws
    pub work5_long : length work.work5 ≡ 128
    pub joined : JoinOutcome
    pub outcome : JoinPromise I J (records_of w) incoming work joined

  -- and each tile is finished with its part of what joining wrote
  pub record Finishing (w : Writing) (j : Joining w) : Type 0 where
    pub incoming : ℕ → List ℕ
    pub counts : ℕ → List ℕ
    pub work : ℕ → List ℕ
    pub part : (t b : ℕ) → t < I * J → b < borders_in J hs ws t → count_at (incoming t) b ≡ count_at j.joined.incoming (borders_before J hs ws t + b)
    pub long : (t : ℕ) → t < I * J → FinishLengths (height_of J hs t) (width_of J ws t) (tiles t) (incoming t) (counts t) (work t)
    pub finished : ℕ → FinishOutcome
    pub outcome : (t : ℕ) → t < I * J → FinishPromise (height_of J hs t) (width_of J ws t) (tiles t) (incoming t) (counts t) (work t) (finished t)

  -- all records are written
  abbrev pub AllWritten : Writing → Type 0
  AllWritten w = (t : ℕ) → t < I * J → number_of (w.written t).said ≡ 0

  -- some step refuses for a loop: a record; or the join, which is made where all records are written; or finishing a tile, which is done where the join is
  abbrev pub SomeStepRefuses : (w : Writing) (j : AllWritten w → Joining w) (f : (all : AllWritten w) → number_of (j all).joined.said ≡ 0 → Finishing w (j all)) → Type 0
  SomeStepRefuses w j f =
      ((t : ℕ) × (t < I * J) × (number_of (w.written t).said ≡ 4))
      ⊎ (((all : AllWritten w) × (number_of (j all).joined.said ≡ 4))
      ⊎ ((all : AllWritten w) × (d : number_of (j all).joined.said ≡ 0) × (t : ℕ) × (t < I * J) × (number_of ((f all d).finished t).said ≡ 4)))

  -- the sheet has a loop
  abbrev pub SheetHasLoop : Type 0
  SheetHasLoop = (p : ℕ) × SheetOnLoop (sheet_rows I hs) (sheet_cols J ws) sheet p
