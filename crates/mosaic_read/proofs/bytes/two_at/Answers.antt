-- `mosaic_read::bytes::two_at` meets its contract: the library's number of two bytes.
-- Assumes nothing.
use native.Mathlib.Omega.{arith}
use Rattle.mosaic_read.specs.Records.{two_at}
use Rattle.mosaic_read.proofs.bytes.two_at.Goals as goal

pub returns-clause-value : goal.returns-clause-value
unfolding two_at
returns-clause-value c = omega (arith, c.from.ensures, c.from_be_bytes.ensures)
