-- DEMAND 2, of a sheet cut into tiles: the counts are the same whether a sheet is counted whole or cut into tiles, and some step refuses for a loop exactly
-- when counting the whole sheet does. What is spoken of, a sheet of allowed shape without bad codes, cut by full rows and columns into an allowed mosaic,
-- its records written, joined, and its tiles finished, is defined in crate tiled, specs/Run.antt.
-- Assumes nothing.
use mathlib.Core.List.{List}
use mathlib.Core.Logic.{◌↔◌}
use mathlib.Core.Path.{◌≡◌, ap}
use Prim.Native.Nat.{ℕ, ◌*◌, ◌<◌}
use native.Mathlib.Omega.{arith}
use lib.ListN.{length}
use Rattle.flow.proofs.Sum.{sum_at_least}
use Rattle.promise.specs.Reply.{number_of}
use Rattle.mosaic.specs.Layout.{sheet_rows, sheet_cols, cells_in, sheet_place}
use Rattle.sheet.specs.Sheet.{count_at, SheetCounts, SheetNoLoop}
use Rattle.sheet.proofs.Passes.{counts_no_loop}
use Rattle.count.specs.Count.{CountPromise, CountOutcome}
use Rattle.tiled.specs.Run.{CutSheet, Writing, Joining, Finishing, AllWritten, SomeStepRefuses, SheetHasLoop}
use Rattle.tiled.proofs.Theorem.{tiled_refuses}
use Rattle.tiled.proofs.Whole as W
use Rattle.demands.specs.Said.{Done, RefusedForLoop}
use Rattle.demands.specs.Sheets.{Permitted}
use Rattle.demands.proofs.Counting.{refused_exactly_for_a_loop, counts_as_published}

module _ (I J : ℕ) (hs ws : ℕ → ℕ) (sheet : List ℕ) (tiles : ℕ → List ℕ) (s : CutSheet I J hs ws sheet tiles) (w : Writing I J hs ws sheet tiles)
    (j : AllWritten I J hs ws sheet tiles w → Joining I J hs ws sheet tiles w)
    (f : (all : AllWritten I J hs ws sheet tiles w) → number_of (j all).joined.said ≡ 0 → Finishing I J hs ws sheet tiles w (j all)) where
  -- SOME STEP REFUSES FOR A LOOP exactly when the whole sheet has one
  pub tiles_refused_exactly_for_a_loop : SomeStepRefuses I J hs ws sheet tiles w j f ↔ SheetHasLoop I J hs ws sheet tiles
  tiles_refused_exactly_for_a_loop = tiled_refuses I J hs ws sheet tiles s w j f

  -- the sheet, counted whole
  module _ (counts : List ℕ) (long : length counts ≡ sheet_rows I hs * sheet_cols J ws) (e : CountOutcome) (kept : CountPromise (sheet_rows I hs) (sheet_cols J ws) sheet counts e) where
    -- it is one of permitted size and codes
    permitted : Permitted (sheet_rows I hs) (sheet_cols J ws) sheet counts
    permitted =
        let f = s.fits in record {
          shape = record {
            some_row = omega (arith, f.some_row, (f.heights 0 (omega (arith, f.some_row))).0, sum_at_least I 0 hs (omega (arith, f.some_row)));
            some_col = omega (arith, f.some_col, (f.widths 0 (omega (arith, f.some_col))).0, sum_at_least J 0 ws (omega (arith, f.some_col)));
            rows_most = f.rows_most;
            cols_most = f.cols_most;
          };
          lengths = record { grid_long = s.cut.sheet_long; counts_long = long };
          codes = s.codes;
        }

    -- WHOLE OR TILED, a loop is refused or it is not
    pub whole_or_tiled_refused : SomeStepRefuses I J hs ws sheet tiles w j f ↔ RefusedForLoop e.said
    whole_or_tiled_refused =
        let (a, b) = tiles_refused_exactly_for_a_loop in
        let (c, d) = refused_exactly_for_a_loop (sheet_rows I hs) (sheet_cols J ws) sheet counts permitted e kept in
        (λ x. d (a x), λ x. b (c x))

    module _ (done : Done e.said) where
      counted : SheetCounts (sheet_rows I hs) (sheet_cols J ws) sheet e.counts
      counted = counts_as_published (sheet_rows I hs) (sheet_cols J ws) sheet counts permitted e kept done

      free : SheetNoLoop (sheet_rows I hs) (sheet_cols J ws) sheet
      free = counts_no_loop (sheet_rows I hs) (sheet_cols J ws) sheet s.cut.sheet_long e.counts counted

      -- WHERE THE WHOLE IS COUNTED, every step is done
      pub every_record_done : AllWritten I J hs ws sheet tiles w
      every_record_done t l = ap number_of (W.records_done I J hs ws sheet tiles s w free t l)

      pub join_done : Done (j every_record_done).joined.said
      join_done = ap number_of (W.join_done I J hs ws sheet tiles s w free (j every_record_done))

      pub every_tile_done : (t : ℕ) → t < I * J → Done ((f every_record_done join_done).finished t).said
      every_tile_done t l =
          ap number_of (W.finished I J hs ws sheet tiles s w free (j every_record_done) e.counts counted (f every_record_done join_done) t l).said_is

      -- WHOLE OR TILED, THE COUNTS ARE THE SAME: finished tiles hold the whole sheet's counts, cell by cell
      pub whole_or_tiled_the_same : (t x : ℕ) → t < I * J → x < cells_in J hs ws t
          → count_at ((f every_record_done join_done).finished t).counts x ≡ count_at e.counts (sheet_place I J hs ws t x)
      whole_or_tiled_the_same = W.tiled_whole I J hs ws sheet tiles s w free (j every_record_done) e.counts counted (f every_record_done join_done)
