-- The loops of `mosaic_read::bytes::start_of`: what they keep.
use mathlib.Core.Path.{◌≡◌}
use Rattle.mosaic_read.specs.Records.{start_of}
use Rattle.mosaic_read.proofs.bytes.start_of.Given as goal

abbrev pub invariant-loop : goal.invariant-loop
invariant-loop l = l.start ≡ start_of l.records l.counter
