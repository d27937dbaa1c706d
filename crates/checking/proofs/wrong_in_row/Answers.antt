-- `checking::wrong_in_row` meets its contract: each place passed satisfies the equation.
-- Assumes nothing.
use mathlib.Core.Path.{sym, ◌∙◌}
use native.Mathlib.Omega.{arith}
use Prim.Native.Nat.{◌+◌, ◌*◌}
use Rattle.checking.proofs.Right.{right_says, wrong_says, right_more}
use Rattle.checking.proofs.wrong_in_row.Goals as goal

pub returns-then-not-is_right : goal.returns-then-not-is_right
returns-then-not-is_right c =
    let g = c.args.grid.now in
    rw c.place.ensures record {
      inside = omega arith;
      here = wrong_says g.sheet.rows g.sheet.cols g.codes.now c.args.counts.now (c.args.row * g.sheet.cols + c.loop-col.col) (sym c.is_right.ensures ∙ c.if-not-is_right.true);
      before = c.loop-col.invariant;
    }

pub loop-col-preserved : goal.loop-col-preserved
loop-col-preserved c =
    let g = c.args.grid.now in
    right_more g c.args.counts.now (c.args.row * g.sheet.cols + c.loop-col.col) (omega arith) c.loop-col.invariant
    (right_says g.sheet.rows g.sheet.cols g.codes.now c.args.counts.now (c.args.row * g.sheet.cols + c.loop-col.col) (sym c.is_right.ensures ∙ c.if-not-is_right.false))
