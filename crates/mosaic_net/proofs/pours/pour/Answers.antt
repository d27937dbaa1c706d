-- `mosaic_net::pours::pour` meets its contract: no exit, off the mosaic, onto an absent cell, or onto land.
-- Assumes nothing.
use mathlib.Core.Path.{sym}
use native.Mathlib.Omega.{arith}
use Rattle.mosaic_step.proofs.OfTile.{inside}
use Rattle.mosaic_net.proofs.Marks.{pour_none, pour_off, pour_absent, pour_land}
use Rattle.mosaic_net.proofs.pours.pour.Goals as goal

pub way-requires : goal.way-requires
way-requires c = (inside c.args.tile.now, c.requires.border)

pub returns-then-from-b : goal.returns-then-from-b
returns-then-from-b c = sym (pour_none c.args.tile.now c.args.b c.requires.border (rw (c.from.ensures, c.way.ensures) at c.if-from-b.true))

pub returns-in_err-h : goal.returns-in_err-h
returns-in_err-h c =
    rw c.from_residual.ensures (sym (pour_off c.args.tile.now c.args.b c.requires.border (rw (c.from.ensures, c.way.ensures) at c.if-from-b.false) c.in_err-h.ensures))

pub returns-then-none-leads : goal.returns-then-none-leads
returns-then-none-leads c =
    sym (pour_absent c.args.tile.now c.args.b c.requires.border c.in_ok-h.ensures.0 c.in_ok-h.ensures.1 (rw (c.from.ensures, c.way.ensures) at c.if-from-b.false) c.requires.leads (omega (arith, c.requires.leads.long)))

pub returns : goal.returns
returns c =
    (pour_land c.args.tile.now c.args.b c.requires.border c.in_ok-h.ensures.0 c.in_ok-h.ensures.1 (rw (c.from.ensures, c.way.ensures) at c.if-from-b.false) c.requires.leads (omega (arith, c.requires.leads.long)), c.in_ok-h.ensures.1)
