-- The records of a cut sheet, strung one behind the other, are read as they were written: each is well formed, and says its tile's sides, counts and ways.
-- Assumes nothing.
use mathlib.Core.List.{List}
use mathlib.Core.Path.{◌≡◌, ap, ap₂, ◌∙◌}
use Prim.Native.Nat.{ℕ, zero, suc, ◌+◌, ◌*◌, ◌/◌, ◌%◌, ◌<◌, ◌≤◌}
use native.Mathlib.Nat.{mul-le-mul}
use native.Mathlib.Omega.{arith}
use lib.ListN.{length, get_or}
use Rattle.flow.specs.Net.{sum}
use Rattle.mosaic.specs.Layout.{height_of, width_of}
use Rattle.mosaic.proofs.Pieces.{piece_before}
use Rattle.mosaic_read.specs.Records.{start_of, rows_of, cols_of, borders_of, two_at, four_at, byte_at, SidesOk, CountsOk, WaysOk}
use Rattle.mosaic_read.proofs.Starts.{start_none, start_next}
use Rattle.sheet.specs.Shape.{TileShape}
use Rattle.sheet.specs.Sheet.{count_at}
use Rattle.tile.specs.Border.{border_cells, border_place}
use Rattle.tile.specs.Way.{way_at}
use Rattle.tile.proofs.Borders.{place_in_lem}
use Rattle.tile.proofs.Cells.{cells_most}
use Rattle.tile_bytes.specs.Bytes.{record_bytes}
use Rattle.tile_bytes.proofs.Each.{record_long}
use Rattle.tile_bytes.proofs.Read as R
use Rattle.tiled.specs.Run.{CutSheet, Writing, records_of}
use Rattle.tiled.proofs.Steps.{tile_shape, Wrote}
use Rattle.tiled.proofs.Strung.{strung_long, strung_at}
use Rattle.tiled.proofs.Ways.{count_most, way_ok}

module _ (I J : ℕ) (hs ws : ℕ → ℕ) (sheet : List ℕ) (tiles : ℕ → List ℕ) (s : CutSheet I J hs ws sheet tiles) (w : Writing I J hs ws sheet tiles)
    (all : (t : ℕ) → t < I * J → Wrote I J hs ws sheet tiles s w t) where
  abbrev bytes : List ℕ
  bytes = records_of I J hs ws sheet tiles w

  -- the length of record t
  abbrev size : ℕ → ℕ
  size t = length (w.written t).bytes

  -- where record t begins
  abbrev from : ℕ → ℕ
  from t = sum t size

  pub bytes_long : length bytes ≡ from (I * J)
  bytes_long = strung_long (λ t. (w.written t).bytes) (I * J)

  module _ (t : ℕ) (l : t < I * J) where
    abbrev h : ℕ
    h = height_of J hs t

    abbrev v : ℕ
    v = width_of J ws t

    abbrev counts : List ℕ
    counts = (all t l).counts

    abbrev one : List ℕ
    one = record_bytes h v (t / J) (t % J) (tiles t) counts

    B : ℕ
    B = border_cells h v

    shape : TileShape h v
    shape = tile_shape I J hs ws sheet tiles s t l

    most : border_cells h v ≤ 1020
    most = cells_most h v shape

    pub size_is : size t ≡ 17 + 7 * border_cells h v
    size_is = ap length (all t l).bytes_are ∙ record_long h v (t / J) (t % J) (tiles t) counts

    pub ends_in : from t + size t ≤ length bytes
    ends_in = omega (arith, bytes_long, piece_before size t (I * J) l)

    -- a byte of record t
    byte_from : (i k : ℕ) → i < 17 + 7 * border_cells h v → k ≡ from t + i → byte_at bytes k ≡ R.byte_at one i
    byte_from i k li e =
        ap (byte_at bytes) e ∙ strung_at (λ t. (w.written t).bytes) (I * J) t i l (omega (arith, size_is)) ∙ ap (λ (x : List ℕ). get_or x i 0) (all t l).bytes_are

    two_from : (i k n : ℕ) → i + 1 < 17 + 7 * border_cells h v → k ≡ from t + i → R.two_at one i ≡ n → two_at bytes k ≡ n
    unfolding two_at
    two_from i k n li e x = omega (arith, byte_from i k (omega arith) e, byte_from (i + 1) (k + 1) li (omega arith), x)

    four_from : (i k n : ℕ) → i + 3 < 17 + 7 * border_cells h v → k ≡ from t + i → R.four_at one i ≡ n → four_at bytes k ≡ n
    unfolding four_at two_at
    four_from i k n li e x =
        omega (
          arith,
          byte_from i k (omega arith) e,
          byte_from (i + 1) (k + 1) (omega arith) (omega arith),
          byte_from (i + 2) (k + 2) (omega arith) (omega arith),
          byte_from (i + 3) (k + 2 + 1) li (omega arith),
          x,
        )

    row_small : h ≤ 256
    row_small = shape.rows_most

    col_small : v ≤ 256
    col_small = shape.cols_most

    -- ---- what is read where record t begins

    module _ (o : ℕ) (at : o ≡ from t) where
      pub rows_at : two_at bytes (o + 3) ≡ h
      rows_at = two_from 3 (o + 3) h (omega arith) (omega arith) (R.read_rows h v (t / J) (t % J) (tiles t) counts (omega (arith, row_small)))

      pub cols_at_lem : two_at bytes (o + 5) ≡ v
      cols_at_lem = two_from 5 (o + 5) v (omega arith) (omega arith) (R.read_cols h v (t / J) (t % J) (tiles t) counts (omega (arith, col_small)))

      pub row_at : t / J < 65536 → two_at bytes (o + 7) ≡ t / J
      row_at lr = two_from 7 (o + 7) (t / J) (omega arith) (omega arith) (R.read_tile_row h v (t / J) (t % J) (tiles t) counts lr)

      pub col_at_lem : t % J < 65536 → two_at bytes (o + 9) ≡ t % J
      col_at_lem lc = two_from 9 (o + 9) (t % J) (omega arith) (omega arith) (R.read_tile_col h v (t / J) (t % J) (tiles t) counts lc)

      pub count_at_lem : (b : ℕ) → b < border_cells h v → four_at bytes (o + 14 + 4 * b) ≡ count_at counts (border_place h v b)
      count_at_lem b lb =
          four_from (14 + 4 * b) (o + 14 + 4 * b) (count_at counts (border_place h v b)) (omega arith) (omega arith)
          (R.read_count h v (t / J) (t % J) (tiles t) counts b lb (omega (arith, count_most h v (tiles t) counts shape (s.cut.tile_long t l) (all t l).equation (border_place h v b) (place_in_lem h v b lb), mul-le-mul row_small col_small)))

      pub way_at_lem : (b : ℕ) → b < border_cells h v → (way_at h v (tiles t) (border_place h v b)).number < 65536 → two_at bytes (o + 17 + 4 * border_cells h v + 3 * b) ≡ (way_at h v (tiles t) (border_place h v b)).number
      way_at_lem b lb small =
          two_from (17 + 4 * border_cells h v + 3 * b) (o + 17 + 4 * border_cells h v + 3 * b) (way_at h v (tiles t) (border_place h v b)).number (omega arith) (omega arith)
          (R.read_way h v (t / J) (t % J) (tiles t) counts b lb small)

      pub code_at : (b : ℕ) → b < border_cells h v → byte_at bytes (o + 17 + 4 * border_cells h v + 3 * b + 2) ≡ (way_at h v (tiles t) (border_place h v b)).code
      code_at b lb = byte_from (17 + 4 * border_cells h v + 3 * b + 2) (o + 17 + 4 * border_cells h v + 3 * b + 2) (omega arith) (omega arith) ∙ R.read_code h v (t / J) (t % J) (tiles t) counts b lb

      -- ---- so each field is well formed

      pub sides_ok : SidesOk bytes o
      sides_ok = record {
        inside = omega (arith, ends_in, size_is);
        tag = byte_from 0 o (omega arith) (omega arith) ∙ R.read_tag1 h v (t / J) (t % J) (tiles t) counts;
        long = two_from 1 (o + 1) 8 (omega arith) (omega arith) (R.read_length1 h v (t / J) (t % J) (tiles t) counts);
        shape = rw (rows_at, cols_at_lem) shape;
      }

      pub counts_ok : CountsOk bytes o h v (border_cells h v)
      counts_ok = record {
        inside = omega (arith, ends_in, size_is);
        tag = byte_from 11 (o + 11) (omega arith) (omega arith) ∙ R.read_tag2 h v (t / J) (t % J) (tiles t) counts;
        long = two_from 12 (o + 11 + 1) (4 * border_cells h v) (omega arith) (omega arith) (R.read_length2 h v (t / J) (t % J) (tiles t) counts (omega (arith, most)));
        counts = λ b lb. omega (arith, count_at_lem b lb, count_most h v (tiles t) counts shape (s.cut.tile_long t l) (all t l).equation (border_place h v b) (place_in_lem h v b lb));
      }

      module _ (small : (b : ℕ) → b < border_cells h v → (way_at h v (tiles t) (border_place h v b)).number < 65536) where
        pub ways_ok : WaysOk bytes o h v (border_cells h v)
        ways_ok = record {
          inside = omega (arith, ends_in, size_is);
          tag = byte_from (14 + 4 * border_cells h v) (o + 14 + 4 * border_cells h v) (omega arith) (omega arith) ∙ R.read_tag3 h v (t / J) (t % J) (tiles t) counts;
          long = two_from (15 + 4 * border_cells h v) (o + 14 + 4 * border_cells h v + 1) (3 * border_cells h v) (omega arith) (omega arith) (R.read_length3 h v (t / J) (t % J) (tiles t) counts (omega (arith, most)));
          ways = way_ok h v (tiles t) counts shape (s.cut.tile_long t l) (all t l).equation bytes o count_at_lem (λ b lb. way_at_lem b lb (small b lb)) code_at;
        }

  -- record t begins where the records before it end
  pub start_is : (t : ℕ) → t ≤ I * J → start_of bytes t ≡ from t
  unfolding sum borders_of
  start_is zero l = start_none bytes
  start_is (suc t) l =
      let lt : t < I * J = omega arith in
      let e : start_of bytes t ≡ from t = start_is t (omega arith) in
      let r : rows_of bytes t ≡ height_of J hs t = rows_at t lt (start_of bytes t) e in
      let c : cols_of bytes t ≡ width_of J ws t = cols_at_lem t lt (start_of bytes t) e in
      omega (arith, start_next bytes t, e, size_is t lt, ap₂ border_cells r c)
