-- The loops of `mosaic_read::read_records`: what they keep. That the records so far are well formed is known of each reading.
use mathlib.Core.Path.{◌≡◌}
use Rattle.mosaic_read.proofs.read_records.Given as goal

abbrev pub invariant-loop : goal.invariant-loop
invariant-loop l = record { records_are : l.reading.records.now ≡ l.records; tile_cols_are : l.reading.tile_cols ≡ l.tile_cols; t_is : l.reading.t ≡ l.counter }
