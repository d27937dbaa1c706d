-- `around::weight::weigh` meets its contract: the two cases of `weigh`.
-- Assumes nothing.
use borrow.Author.Tests.{eq-eqb, ne_eqb}
use Rattle.around.specs.Weight.{weigh}
use Rattle.around.proofs.weight.weigh.Goals as goal

pub returns-then-count-eq0-clause-value : goal.returns-then-count-eq0-clause-value
unfolding weigh
returns-then-count-eq0-clause-value c = rw (eq-eqb _ 0 c.if-count-eq0.true)

pub returns-else-count-eq0-clause-value : goal.returns-else-count-eq0-clause-value
unfolding weigh
returns-else-count-eq0-clause-value c = rw (ne_eqb _ 0 c.if-count-eq0.false) c.from.ensures
