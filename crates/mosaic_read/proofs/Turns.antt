-- From record to record: the start, and the summed rows and columns so far.
-- Assumes nothing.
use mathlib.Core.List.{List}
use mathlib.Core.Path.{◌≡◌, sym, ap, ◌∙◌}
use Prim.Native.Nat.{ℕ, ◌+◌, ◌*◌, ◌/◌, ◌%◌, ◌≤◌, ◌<◌}
use native.Mathlib.Omega.{arith}
use native.Mathlib.Nat.{suc-mul, mod-lt}
use native.Mathlib.Numerals.{add-one}
use borrow.Author.Count.{below_more}
use lib.ListN.{length}
use Rattle.flow.specs.Net.{sum}
use Rattle.flow.proofs.Sum.{sum_suc, sum_next}
use Rattle.sheet.proofs.Places.{row_of, col_of}
use Rattle.mosaic.proofs.Pieces.{spot_is}
use Rattle.mosaic_read.specs.BorderRecord.{IsAt, Inside, record_end}
use Rattle.mosaic_read.specs.Records.{start_of, heights, widths, RecordOk}
use Rattle.mosaic_read.specs.Method.{Reached}
use Rattle.mosaic_read.specs.declared.record.BorderRecord.{BorderRecord}
use Rattle.mosaic_read.proofs.OneRecord.{record_whole}
use Rattle.mosaic_read.proofs.Sides.{rows_are, cols_are, end_is}
use Rattle.mosaic_read.proofs.Starts.{start_none, start_sum}

-- the tile row and the tile column of the next record
pub turn_row : (J t : ℕ) → 1 ≤ J → t % J + 1 ≡ J → ((t + 1) / J ≡ t / J + 1) × ((t + 1) % J ≡ 0)
turn_row J t some e =
    let next : t + 1 ≡ (t / J + 1) * J + 0 = omega (arith, spot_is J t, suc-mul (t / J) J, ap (λ (x : ℕ). x * J) (add-one (t / J))) in
    (ap (λ (x : ℕ). x / J) next ∙ row_of J (t / J + 1) 0 (omega arith), ap (λ (x : ℕ). x % J) next ∙ col_of J (t / J + 1) 0 (omega arith))

pub turn_col : (J t : ℕ) → t % J + 1 < J → ((t + 1) / J ≡ t / J) × ((t + 1) % J ≡ t % J + 1)
turn_col J t l =
    let next : t + 1 ≡ t / J * J + (t % J + 1) = omega (arith, spot_is J t) in
    (ap (λ (x : ℕ). x / J) next ∙ row_of J (t / J) (t % J + 1) l, ap (λ (x : ℕ). x % J) next ∙ col_of J (t / J) (t % J + 1) l)

-- before the first record
pub reached_none : (bytes : List ℕ) (J : ℕ) → 1 ≤ J → Reached bytes J 0 0 0 0
unfolding sum
reached_none bytes J some =
    let none : 0 ≡ 0 * J + 0 = omega arith in
    record {
      some_col = some;
      before = λ q l. absurd (omega arith);
      start = sym (start_none bytes);
      above_is = sym (ap (λ (x : ℕ). sum x (heights bytes J)) (ap (λ (x : ℕ). x / J) none ∙ row_of J 0 0 some));
      left_is = sym (ap (λ (x : ℕ). sum x (widths bytes)) (ap (λ (x : ℕ). x % J) none ∙ col_of J 0 0 some));
      above_most = omega arith;
      left_most = omega arith;
    }

-- past record t, as it is read
module _ {bytes : List ℕ} {J t o above left : ℕ} (r : Reached bytes J t o above left) (ok : RecordOk bytes J t) {b : BorderRecord} (at : IsAt bytes o b) where
  -- records are no more than bytes
  pub few : t ≤ length bytes
  few = omega (arith, r.start, start_sum bytes t, ok.sides.inside)

  pub end_inside : Inside b
  end_inside = rw (at.bytes_are, end_is at t r.start) (record_whole ok).inside

  high : b.tile.rows ≡ heights bytes J (t / J)
  high = rows_are at t r.start ∙ ok.placed.height

  wide : b.tile.cols ≡ widths bytes (t % J)
  wide = cols_are at t r.start ∙ ok.placed.width

  pub above_fits : above + b.tile.rows ≤ 4096
  above_fits = omega (arith, r.above_is, high, ok.placed.rows_most, sum_suc (t / J) (heights bytes J))

  pub left_fits : left + b.tile.cols ≤ 4096
  left_fits = omega (arith, r.left_is, wide, ok.placed.cols_most, sum_suc (t % J) (widths bytes))

  module _ {end : ℕ} (e : end ≡ record_end b) where
    next_start : end ≡ start_of bytes (t + 1)
    next_start = e ∙ end_is at t r.start ∙ ap (start_of bytes) (sym (add-one t))

    -- the next tile row
    pub reached_row : t % J + 1 ≡ J → Reached bytes J (t + 1) end (above + b.tile.rows) 0
    unfolding sum
    reached_row l =
        let turn = turn_row J t r.some_col l in
        record {
          some_col = r.some_col;
          before = below_more (RecordOk bytes J) t r.before ok;
          start = next_start;
          above_is = omega (arith, r.above_is, high, sum_next (t / J) (heights bytes J), ap (λ (x : ℕ). sum x (heights bytes J)) turn.0);
          left_is = sym (ap (λ (x : ℕ). sum x (widths bytes)) turn.1);
          above_most = above_fits;
          left_most = omega arith;
        }

    -- the next tile column
    pub reached_col : (t % J + 1 ≡ J → ⊥) → Reached bytes J (t + 1) end above (left + b.tile.cols)
    reached_col n =
        let turn = turn_col J t (omega (arith, mod-lt t r.some_col)) in
        record {
          some_col = r.some_col;
          before = below_more (RecordOk bytes J) t r.before ok;
          start = next_start;
          above_is = r.above_is ∙ sym (ap (λ (x : ℕ). sum x (heights bytes J)) turn.0);
          left_is = omega (arith, r.left_is, wide, sum_next (t % J) (widths bytes), ap (λ (x : ℕ). sum x (widths bytes)) turn.1);
          above_most = r.above_most;
          left_most = left_fits;
        }
