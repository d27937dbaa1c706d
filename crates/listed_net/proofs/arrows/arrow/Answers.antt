-- `listed_net::arrows::arrow` meets its contract: what is read is where the water goes.
-- Assumes nothing.
use Rattle.std.proofs.Common.{rules, sym}
use Rattle.listed_net.proofs.Listed.{to_at_read}
use Rattle.listed_net.proofs.arrows.arrow.Goals as goal

pub returns : goal.returns
returns c = let e = to_at_read c.args.to.now c.args.p c.requires in rw (sym e, c.then_some.ensures) (search rules)
