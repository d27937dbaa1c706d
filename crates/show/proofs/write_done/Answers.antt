-- `show::write_done` meets its contract: three parts written one after the other.
-- Assumes nothing.
use native.Mathlib.Omega.{arith}
use lib.ListN.{length-append}
use Rattle.writer.proofs.Wrote.{writes_is, writes_then, writes_long}
use Rattle.show.specs.Show.{word}
use Rattle.show.proofs.Long.{decimal_20}
use Rattle.show.proofs.Lines.{shape_is, shape_long, totals_is}
use Rattle.show.proofs.write_done.Goals as goal

pub write_line-requires : goal.write_line-requires
write_line-requires c =
    simp length-append (omega (arith, decimal_20 c.args.shape.rows (omega (arith, c.args.shape.bounds.rows_most)), decimal_20 c.args.shape.cols (omega (arith, c.args.shape.bounds.cols_most))))

pub write_grid-requires-clause-room : goal.write_grid-requires-clause-room
unfolding word
write_grid-requires-clause-room c =
    let w = writes_is (shape_is c.args.shape.rows c.args.shape.cols) c.write_line.ensures in
    omega (arith, w.wrote.next_is, writes_long w, shape_long c.args.shape.rows c.args.shape.cols (omega (arith, c.args.shape.bounds.rows_most)) (omega (arith, c.args.shape.bounds.cols_most)))

pub write_line-requires-2 : goal.write_line-requires-2
unfolding word
write_line-requires-2 c =
    let w = writes_is (shape_is c.args.shape.rows c.args.shape.cols) c.write_line.ensures in
    let g = c.write_grid.ensures in
    simp length-append (omega (
      arith,
      w.wrote.next_is,
      writes_long w,
      g.wrote.next_is,
      writes_long g,
      shape_long c.args.shape.rows c.args.shape.cols (omega (arith, c.args.shape.bounds.rows_most)) (omega (arith, c.args.shape.bounds.cols_most)),
      decimal_20 c.args.land c.ranges.land.fits,
      decimal_20 c.args.outlets c.ranges.outlets.fits,
      decimal_20 c.args.greatest (omega arith),
    ))

pub returns : goal.returns
unfolding word
returns c =
    writes_then (writes_then (writes_is (shape_is c.args.shape.rows c.args.shape.cols) c.write_line.ensures) c.write_grid.ensures)
    (writes_is (totals_is c.args.land c.args.outlets c.args.greatest) c.write_line-2.ensures)
