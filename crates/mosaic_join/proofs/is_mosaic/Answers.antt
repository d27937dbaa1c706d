-- `mosaic_join::is_mosaic` meets its contract: 1 to 64 tiles.
-- Assumes nothing.
use Rattle.mosaic_join.proofs.Refuse.{shape_says}
use Rattle.mosaic_join.proofs.is_mosaic.Goals as goal

pub returns-in-Some : goal.returns-in-Some
returns-in-Some c = shape_says c.args.tile_rows c.args.tile_cols c.in-Some.ensures.1 c.is_within.result c.is_within.ensures
