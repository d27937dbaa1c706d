-- `mosaic_read::read_records` meets its contract: the first fault of the first record that has one, or none.
-- Assumes nothing.
use mathlib.Core.Path.{◌≡◌}
use native.Mathlib.Omega.{arith}
use lib.ListN.{length}
use Prim.Native.Nat.{◌*◌}
use Rattle.std.proofs.lemmas.Result.{err_from_is_err_and}
use Rattle.mosaic_read.specs.Method.{Reached}
use Rattle.mosaic_read.specs.Records.{start_of}
use Rattle.mosaic_read.proofs.OneRecord.{whole_before}
use Rattle.mosaic_read.proofs.Starts.{start_inside, start_sum}
use Rattle.mosaic_read.proofs.AllRecords.{AllOk, read_fault, read_good}
use Rattle.mosaic_read.proofs.read_records.Goals as goal

pub returns-in_err-record : goal.returns-in_err-record
returns-in_err-record c =
    let a = c.args in
    let known = c.loop.invariant in
    let ok : AllOk a.records.now a.tile_cols c.loop.counter = rw (← known.records_are, ← known.tile_cols_are, ← known.t_is) c.loop.reading.reached.before in
    let p = err_from_is_err_and c.from_residual.result c.from_residual.ensures.1 in
    rw (p.1, p.2)
    (read_fault a.records.now a.tile_cols a.tile_rows c.loop.counter c.loop-test.true ok (rw (known.records_are, known.tile_cols_are, known.t_is) at c.in_err-record.ensures))

pub overflow_sub-result : goal.overflow_sub-result
overflow_sub-result c =
    let known = c.loop.invariant in
    let n : c.loop.reading.t ≡ c.args.tile_rows * c.args.tile_cols = omega arith in
    omega (arith, c.loop.reading.reached.start, n, start_sum c.loop.reading.records.now c.loop.reading.t)

pub returns : goal.returns
returns c =
    let a = c.args in
    let known = c.loop.invariant in
    let n : c.loop.reading.t ≡ a.tile_rows * a.tile_cols = omega arith in
    let r : Reached a.records.now a.tile_cols (a.tile_rows * a.tile_cols) c.loop.reading.start c.loop.reading.above c.loop.reading.left = rw (← n, ← known.records_are, ← known.tile_cols_are) c.loop.reading.reached in
    let long : length a.records.now ≡ start_of a.records.now (a.tile_rows * a.tile_cols) = omega (arith, r.start, start_inside a.records.now (a.tile_rows * a.tile_cols) (whole_before r.before)) in
    read_good a.records.now a.tile_cols a.tile_rows r.before long (omega (arith, r.start, start_sum a.records.now (a.tile_rows * a.tile_cols)))
