-- `mosaic_net::pours::Pours::tell` meets its contract: border cells are few.
-- Assumes nothing.
use native.Mathlib.Omega.{arith}
use Rattle.mosaic_net.proofs.Told.{borders_most}
use Rattle.mosaic_net.proofs.pours.PoursTold.tell.Goals as goal

pub overflow_cast-result : goal.overflow_cast-result
overflow_cast-result c = omega (arith, c.in-Some.ensures.1, borders_most _ _ _ c.args.tile.now.tiles.mosaic.well_formed)

pub overflow_cast-result-in-None : goal.overflow_cast-result-in-None
overflow_cast-result-in-None c = omega (arith, c.requires.fits.long, borders_most _ _ _ c.args.tile.now.tiles.mosaic.well_formed)
