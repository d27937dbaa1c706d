-- `mosaic_read::reading::Reading::read` meets its contract: a law of parts for each way through it.
-- Assumes nothing.
use native.Mathlib.Omega.{arith}
use Rattle.mosaic_read.proofs.OneRecord.{whole_before, placed_fault, counts_fault, ways_fault, record_good}
use Rattle.mosaic_read.proofs.Starts.{start_inside}
use Rattle.mosaic_read.proofs.reading.Reading.read.Goals as goal

pub read-requires : goal.read-requires
read-requires c =
    let r = c.args.self.now.reached in
    omega (arith, r.start, start_inside _ _ (whole_before r.before))

pub returns-then-not-placed_ok : goal.returns-then-not-placed_ok
returns-then-not-placed_ok c = placed_fault c.args.self.now.reached c.in-Some.ensures.0 c.if-not-placed_ok.ensures

pub returns-then-not-counts_ok : goal.returns-then-not-counts_ok
returns-then-not-counts_ok c =
    counts_fault c.args.self.now.reached c.in-Some.ensures.0 c.if-not-placed_ok.ensures c.in-Some.record c.in-Some.ensures.1 c.if-not-counts_ok.ensures

pub returns-then-not-ways_ok : goal.returns-then-not-ways_ok
returns-then-not-ways_ok c =
    ways_fault c.args.self.now.reached c.in-Some.ensures.0 c.if-not-placed_ok.ensures c.in-Some.record c.in-Some.ensures.1 c.if-not-counts_ok.ensures c.if-not-ways_ok.ensures

pub returns : goal.returns
returns c =
    (record_good c.args.self.now.reached c.in-Some.ensures.0 c.if-not-placed_ok.ensures c.in-Some.record c.in-Some.ensures.1 c.if-not-counts_ok.ensures c.if-not-ways_ok.ensures, c.in-Some.ensures.1)
