-- `listed_net::method::walk` meets its contract: each turn is a step.
-- Assumes nothing.
use Rattle.listed_net.proofs.Move.{moved_on}
use Rattle.listed_net.proofs.method.walk.Goals as goal

pub loop-next-preserved : goal.loop-next-preserved
loop-next-preserved c = moved_on (rw c.in-Some.is at c.loop-next.invariant) c.hand_on-next.ensures.moved
