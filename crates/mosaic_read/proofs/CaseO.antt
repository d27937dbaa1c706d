-- Case O of paper 01: the bytes of its record, as the paper prints them, are well formed in a mosaic of that one tile, and reading them is done. The same bytes
-- with one more are refused at that byte.
-- Assumes nothing.
use mathlib.Core.List.{List, [], ◌∷◌, ◌++◌}
use mathlib.Core.Path.{refl}
use Prim.Native.Nat.{ℕ, zero, suc, ◌*◌, ◌<◌, ◌≤◌}
use native.Mathlib.Omega.{arith}
use Rattle.flow.specs.Net.{sum}
use Rattle.promise.specs.Reply.Reply.{reply}
use Rattle.sheet.specs.Compass.{is_arrow, line_of, step_of}
use Rattle.sheet.specs.Sheet.{step_from}
use Rattle.tile.specs.Border.{edge_at, on_border, border_cells, nth, border_place}
use Rattle.mosaic_read.specs.Records.{two_at, four_at, start_of, borders_of, heights, widths, cell_count, WayOk, RecordOk}
use Rattle.mosaic_read.specs.Read.{ReadPromise}
use Rattle.mosaic_read.proofs.AllRecords.{AllOk, read_good, read_past}

-- 01 0008 0001 0002 0000 0000, 02 0008 00000001 00000002, 03 0006 0001 01 0001 01
abbrev head : List ℕ
head = 1 ∷ 0 ∷ 8 ∷ 0 ∷ 1 ∷ 0 ∷ 2 ∷ 0 ∷ 0 ∷ 0 ∷ 0 ∷ []

abbrev counts : List ℕ
counts = 2 ∷ 0 ∷ 8 ∷ 0 ∷ 0 ∷ 0 ∷ 1 ∷ 0 ∷ 0 ∷ 0 ∷ 2 ∷ []

abbrev ways : List ℕ
ways = 3 ∷ 0 ∷ 6 ∷ 0 ∷ 1 ∷ 1 ∷ 0 ∷ 1 ∷ 1 ∷ []

abbrev o : List ℕ → List ℕ
o more = head ++ counts ++ ways ++ more

-- the counts are 1 and 2
count_ok : (more : List ℕ) (b : ℕ) → b < 2 → cell_count (o more) 0 b ≤ 2
unfolding four_at two_at
count_ok more zero l = omega arith
count_ok more (suc zero) l = omega arith
count_ok more (suc (suc b)) l = absurd (omega arith)

-- both ways are border cell 1 with code 1, which steps outside
way_ok : (more : List ℕ) (b : ℕ) → b < 2 → WayOk (o more) 0 1 2 2 b
unfolding two_at four_at is_arrow line_of step_of step_from border_place nth sum on_border edge_at
way_ok more zero l = record {
  absent_zero = λ m. absurd (omega (arith, m.0));
  zero_absent = λ z. absurd (omega (arith, z));
  leads = λ n m. record { border = omega arith; same_way = refl; same_code = refl; arrow = refl; outside = omega arith };
}
way_ok more (suc zero) l = record {
  absent_zero = λ m. absurd (omega (arith, m.0));
  zero_absent = λ z. absurd (omega (arith, z));
  leads = λ n m. record { border = omega arith; same_way = refl; same_code = refl; arrow = refl; outside = omega arith };
}
way_ok more (suc (suc b)) l = absurd (omega arith)

record_ok : (more : List ℕ) → RecordOk (o more) 1 0
unfolding start_of borders_of two_at four_at border_cells on_border edge_at sum heights widths
record_ok more = record {
  sides = record {
    inside = omega arith;
    tag = refl;
    long = refl;
    shape = record { some_row = omega arith; rows_most = omega arith; some_col = omega arith; cols_most = omega arith };
  };
  placed = record { row = refl; col = refl; height = refl; width = refl; rows_most = omega arith; cols_most = omega arith };
  counts = record { inside = omega arith; tag = refl; long = refl; counts = count_ok more };
  ways = record { inside = omega arith; tag = refl; long = refl; ways = way_ok more };
}

all_ok : (more : List ℕ) → AllOk (o more) 1 (1 * 1)
all_ok more zero l = record_ok more
all_ok more (suc t) l = absurd (omega arith)

pub case_o_read : ReadPromise 1 1 (o []) (reply 0 (2 ∷ []))
unfolding start_of borders_of two_at border_cells on_border edge_at sum
case_o_read = read_good (o []) 1 1 (all_ok []) refl refl

pub case_o_more : (x : ℕ) → ReadPromise 1 1 (o (x ∷ [])) (reply 8 (31 ∷ []))
unfolding start_of two_at border_cells on_border edge_at sum
case_o_more x = read_past (o (x ∷ [])) 1 1 (all_ok (x ∷ [])) (omega arith)
