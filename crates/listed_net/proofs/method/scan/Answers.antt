-- `listed_net::method::scan` meets its contract: a walk goes down from the next cell, or it waits.
-- Assumes nothing.
use Rattle.listed_net.proofs.Move.{scanned_over, scanned_walked}
use Rattle.listed_net.proofs.method.scan.Goals as goal
use Rattle.listed_net.proofs.method.scan.Goals.{then-waiting-k-eq0, else-waiting-k-eq0}

pub loop-k-preserved : goal.loop-k-preserved
loop-k-preserved c = elim c.if-waiting-k-eq0.branch [
  | then-waiting-k-eq0 w ↦ rw (w.totals-is, w.waiting-is) (scanned_walked c.loop-k.invariant w.walk.ensures)
  | else-waiting-k-eq0 w ↦ rw (w.totals-is, w.waiting-is) (scanned_over c.loop-k.invariant w.if-waiting-k-eq0.false)
]
