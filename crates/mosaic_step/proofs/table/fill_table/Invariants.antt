-- The loops of `mosaic_step::table::fill_table`: what they keep.
use Rattle.mosaic_step.proofs.Filling.{Reached}
use Rattle.mosaic_step.proofs.table.fill_table.Given as goal

abbrev pub invariant-loop-t : goal.invariant-loop-t
invariant-loop-t l = Reached l.mosaic.tile_cols l.mosaic.records.now l.table l.t l.start l.first
