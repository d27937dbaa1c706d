-- `mosaic_read::reading::Reading::new` meets its contract: nothing stands before the first record.
-- Assumes nothing.
use Rattle.mosaic_read.proofs.Turns.{reached_none}
use Rattle.mosaic_read.proofs.reading.Reading.new.Goals as goal

pub invariant_of-result : goal.invariant_of-result
invariant_of-result c = record { reached = reached_none c.args.records.now c.args.tile_cols c.requires }
