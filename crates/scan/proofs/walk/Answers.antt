-- `scan::walk` meets its contract: each turn is a step of the method.
-- Assumes nothing.
use Rattle.scan.proofs.Step.{moved_on}
use Rattle.scan.proofs.walk.Goals as goal

pub loop-onward-preserved : goal.loop-onward-preserved
loop-onward-preserved c =
    let d = c.args.grid.now in
    record {
      moved = moved_on d.sheet.rows d.sheet.cols d.codes.now c.args.more.now c.args.counts.now _ _ _ _ _ c.loop-onward.invariant.moved (rw c.in-To.is c.arrive-onward.ensures.moved);
      onward = c.arrive-onward.ensures.onward;
    }
