-- `mosaic_net::leads::Leads::tell` meets its contract: a border cell leads to an exit, its water ends inside, or it is absent.
-- Assumes nothing.
use mathlib.Core.Path.{ap, ◌∙◌}
use native.Mathlib.Omega.{arith}
use Prim.Native.Nat.{ℕ, ◌+◌}
use Rattle.mosaic_step.proofs.OfTile.{inside}
use Rattle.mosaic_net.proofs.Told.{borders_most}
use Rattle.mosaic_net.proofs.Marks.{lead_over, lead_most, lead_absent, lead_ends}
use Rattle.mosaic_net.proofs.leads.LeadsTold.tell.Goals as goal

pub told-requires : goal.told-requires
told-requires c = (inside c.args.tile.now, c.requires.border)

pub overflow_add-result : goal.overflow_add-result
overflow_add-result c = omega (arith, c.requires.fits, borders_most _ _ _ c.args.tile.now.tiles.mosaic.well_formed)

pub overflow_cast-result : goal.overflow_cast-result
overflow_cast-result c = omega (arith, c.requires.fits, borders_most _ _ _ c.args.tile.now.tiles.mosaic.well_formed)

pub overflow_cast-result-in-Inside : goal.overflow_cast-result-in-Inside
overflow_cast-result-in-Inside c = omega (arith, c.requires.fits, borders_most _ _ _ c.args.tile.now.tiles.mosaic.well_formed)

pub overflow_add-result-in-Over : goal.overflow_add-result-in-Over
overflow_add-result-in-Over c =
    omega (arith, lead_over c.args.tile.now c.args.b c.requires.border c.in-Over.ensures, lead_most c.args.tile.now c.args.b c.requires.border)

pub overflow_cast-result-in-Over : goal.overflow_cast-result-in-Over
overflow_cast-result-in-Over c =
    omega (arith, lead_over c.args.tile.now c.args.b c.requires.border c.in-Over.ensures, lead_most c.args.tile.now c.args.b c.requires.border)

pub returns-in-Absent : goal.returns-in-Absent
returns-in-Absent c = ap (λ (x : ℕ). x + 1) c.requires.fits ∙ lead_absent c.args.tile.now c.args.b c.requires.border c.in-Absent.ensures

pub returns-in-Inside : goal.returns-in-Inside
returns-in-Inside c = c.requires.fits ∙ lead_ends c.args.tile.now c.args.b c.requires.border c.in-Inside.ensures

pub returns-in-Over : goal.returns-in-Over
returns-in-Over c = rw c.from.ensures (lead_over c.args.tile.now c.args.b c.requires.border c.in-Over.ensures)
