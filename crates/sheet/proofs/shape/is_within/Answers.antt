-- `sheet::shape::is_within` meets its contract: each way through its test is a case of `within`.
-- Assumes nothing.
use borrow.Author.Tests.{le-leb, lt-leb}
use Rattle.sheet.specs.Shape.{within}
use Rattle.sheet.proofs.shape.is_within.Goals as goal

pub returns-then-n-ge1 : goal.returns-then-n-ge1
unfolding within
returns-then-n-ge1 c = simp (le-leb _ _ c.if-n-ge1.true)

pub returns-else-n-ge1 : goal.returns-else-n-ge1
unfolding within
returns-else-n-ge1 c = simp (lt-leb _ _ c.if-n-ge1.false)
