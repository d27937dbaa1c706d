-- `mosaic_step::table::fill_table` meets its contract: each turn writes one tile's numbers.
-- Assumes nothing.
use mathlib.Core.Path.{sym, ap, ◌∙◌}
use native.Mathlib.Numerals.{add-one}
use native.Mathlib.Omega.{arith}
use Rattle.mosaic.specs.Layout.{borders_before}
use Rattle.mosaic_read.specs.Records.{start_of, heights, widths}
use Rattle.mosaic_read.proofs.OneRecord.{record_whole}
use Rattle.mosaic_read.proofs.Sides.{borders_are, end_is, borders_most}
use Rattle.mosaic_read.proofs.Starts.{start_none}
use Rattle.mosaic_step.proofs.Filling.{filled_none, filled_next}
use Rattle.mosaic_step.proofs.Known.{before_none, before_next, start_most, before_most}
use Rattle.mosaic_step.proofs.table.fill_table.Goals as goal

pub loop-t-init : goal.loop-t-init
loop-t-init c =
    record { start = sym (start_none _); number = sym (before_none c.args.mosaic.now.well_formed); filled = filled_none _ _ c.requires }

pub overflow_cast-table : goal.overflow_cast-table
overflow_cast-table c =
    let w = c.args.mosaic.now.well_formed in
    omega (arith, c.loop-t.invariant.start, start_most w c.loop-t.t (omega arith), w.shape.tiles_most)

pub overflow_cast-table-in-loop-t : goal.overflow_cast-table-in-loop-t
overflow_cast-table-in-loop-t c =
    let w = c.args.mosaic.now.well_formed in
    omega (arith, c.loop-t.invariant.number, before_most w c.loop-t.t (omega arith), w.shape.tiles_most)

pub end-start-requires : goal.end-start-requires
end-start-requires c =
    let w = c.args.mosaic.now.well_formed in
    rw (c.at-record.ensures.bytes_are, end_is c.at-record.ensures c.loop-t.t c.loop-t.invariant.start) (record_whole (w.records c.loop-t.t c.loop-t-test.true)).inside

pub overflow_add-first : goal.overflow_add-first
overflow_add-first c =
    let w = c.args.mosaic.now.well_formed in
    omega (arith, c.loop-t.invariant.number, before_most w c.loop-t.t (omega arith), borders_most c.at-record.result, w.shape.tiles_most)

pub loop-t-preserved : goal.loop-t-preserved
loop-t-preserved c =
    let m = c.args.mosaic.now in
    let at = c.loop-t in
    let n = borders_are c.at-record.ensures at.t at.invariant.start in
    record {
      start = c.end-start.ensures ∙ end_is c.at-record.ensures at.t at.invariant.start ∙ ap (start_of m.records.now) (sym (add-one at.t));
      number = omega (arith, n, at.invariant.number, before_next m.well_formed at.t c.loop-t-test.true, ap (borders_before m.tile_cols (heights m.records.now m.tile_cols) (widths m.records.now)) (add-one at.t));
      filled = filled_next m.tile_cols m.records.now at.table at.t (omega (arith, m.well_formed.shape.tiles_most)) at.invariant.start at.invariant.number at.invariant.filled;
    }
