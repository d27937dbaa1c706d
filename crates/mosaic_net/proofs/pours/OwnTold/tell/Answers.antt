-- `mosaic_net::pours::Own::tell` meets its contract: no exit, or an exit with its count.
-- Assumes nothing.
use mathlib.Core.Path.{◌∙◌}
use native.Mathlib.Omega.{arith}
use Rattle.mosaic_step.proofs.OfTile.{inside}
use Rattle.mosaic_net.proofs.Marks.{own_none, own_exit}
use Rattle.mosaic_net.proofs.pours.OwnTold.tell.Goals as goal

pub way-requires : goal.way-requires
way-requires c = (inside c.args.tile.now, c.requires.border)

pub returns-then-from-b : goal.returns-then-from-b
returns-then-from-b c = own_none c.args.tile.now c.args.b c.requires.border (rw (c.from.ensures, c.way.ensures) at c.if-from-b.true)

pub count-requires : goal.count-requires
count-requires c = omega (arith, inside c.args.tile.now)

pub returns : goal.returns
returns c = c.count.ensures ∙ own_exit c.args.tile.now c.args.b c.requires.border (rw (c.from.ensures, c.way.ensures) at c.if-from-b.false)
