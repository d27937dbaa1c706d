-- `mosaic_read::bytes::start_of` meets its contract: each turn passes one record.
-- Assumes nothing.
use mathlib.Core.Path.{sym, ap, ◌∙◌}
use native.Mathlib.Numerals.{add-one}
use native.Mathlib.Omega.{arith}
use Rattle.mosaic_read.specs.Records.{start_of}
use Rattle.mosaic_read.proofs.Sides.{end_is}
use Rattle.mosaic_read.proofs.Starts.{start_none, start_next}
use Rattle.mosaic_read.proofs.bytes.start_of.Goals as goal

pub loop-init : goal.loop-init
loop-init c = sym (start_none _)

pub at-requires-clause-inside : goal.at-requires-clause-inside
at-requires-clause-inside c =
    let whole = c.requires c.loop.counter (omega arith) in
    omega (arith, c.loop.invariant, whole.inside, start_next c.args.records.now c.loop.counter)

pub at-requires-clause-shape : goal.at-requires-clause-shape
at-requires-clause-shape c = rw c.loop.invariant (c.requires c.loop.counter (omega arith)).shape

pub end-start-requires : goal.end-start-requires
end-start-requires c = rw (c.at.ensures.bytes_are, end_is c.at.ensures c.loop.counter c.loop.invariant) (c.requires c.loop.counter (omega arith)).inside

pub loop-preserved : goal.loop-preserved
loop-preserved c = c.end-start.ensures ∙ end_is c.at.ensures c.loop.counter c.loop.invariant ∙ ap (start_of _) (sym (add-one c.loop.counter))
