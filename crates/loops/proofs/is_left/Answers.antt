-- `loops::is_left` meets its contract: the code and the count that are read are those of the place.
-- Assumes nothing.
use Rattle.loops.proofs.Left.{left_is}
use Rattle.loops.proofs.is_left.Goals as goal

pub returns : goal.returns
returns c = left_is c.args.grid.now c.args.counts.now c.args.p c.requires.0 c.is_arrow.ensures
