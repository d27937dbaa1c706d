-- What is said once the tile is counted, link by link of the promise.
-- Assumes nothing.
use mathlib.Core.List.{List, [], ◌∷◌}
use mathlib.Core.Path.{◌≡◌, refl}
use Prim.Native.Nat.{ℕ, ◌*◌, ◌<◌}
use native.Mathlib.Omega.{arith}
use lib.ListN.{length}
use Rattle.promise.specs.Links.{FirstNot}
use Rattle.promise.specs.Links.UnlessSome.{refused_with, met_none}
use Rattle.promise.specs.Reply.Reply.{reply}
use Rattle.flow.specs.Net.{loop_length}
use Rattle.flow.proofs.Loop.{first_loop_free}
use Rattle.sheet.specs.Shape.{TileShape}
use Rattle.sheet.specs.Sheet.{dest_of, SheetNoLoop, SheetCounts}
use Rattle.scan.specs.Scan.{Counting}
use Rattle.loops.specs.Left.{NotLeft}
use Rattle.loops.proofs.First.{left_first}
use Rattle.loops.proofs.Left.{left_not}
use Rattle.scan.proofs.Scanning.{none_left}
use Rattle.tile_bytes.specs.Bytes.{record_bytes}
use Rattle.tile_ways.specs.Ways.{FreeTile}
use Rattle.tile_record.specs.Record.{RecordAnswer, cleared, ends}

module _ (rows cols tile_row tile_col : ℕ) (g c : List ℕ) (long : length g ≡ rows * cols) (s : Counting rows cols g [] c (rows * cols)) where
  -- a land cell is left: the first is the answer
  pub answers_loop : {p len : ℕ} {bytes w1 w2 : List ℕ} → FirstNot (length g) (NotLeft g c) p → len ≡ loop_length (rows * cols) (dest_of rows cols g) p
      → w1 ≡ cleared rows cols → w2 ≡ cleared rows cols → RecordAnswer rows cols tile_row tile_col g bytes (ends (reply 4 (p ∷ len ∷ [])) bytes w1 w2)
  answers_loop {p} {len} {bytes} first e a b =
      refused_with (record { place = p; len = len }) (rw e (left_first rows cols g [] c long s first)) (λ i. ends (reply 4 (p ∷ len ∷ [])) bytes (a i) (b i))

  -- none is left
  module _ (none : (q : ℕ) → q < length g → NotLeft g c q) where
    all_counted : SheetNoLoop rows cols g × SheetCounts rows cols g c
    all_counted = none_left rows cols g [] c long s (λ p l. left_not g c p (none p (omega arith)))

    -- the tile has no loop
    pub free_tile : TileShape rows cols → FreeTile rows cols g
    free_tile shape = record { shape = shape; grid_long = long; free = all_counted.0 }

    -- and the record of its counts is written
    pub answers_done : {bytes after w1 w2 : List ℕ} → after ≡ record_bytes rows cols tile_row tile_col g c → w1 ≡ cleared rows cols → w2 ≡ cleared rows cols
        → RecordAnswer rows cols tile_row tile_col g bytes (ends (reply 0 []) after w1 w2)
    answers_done e a b =
        met_none (λ v first. first_loop_free all_counted.0 first) record {
          counts = c;
          long = s.long;
          equation = all_counted.1;
          bytes_are = e;
          said_is = refl;
          work1_clear = a;
          work2_clear = b;
        }
