-- `around::neighbours` meets its contract: away from the edge the eight neighbours are at hand.
-- Assumes nothing.
use Rattle.around.proofs.Inside.{inner_cell}
use Rattle.around.proofs.neighbours.Goals as goal

pub inner-requires-clause-inner : goal.inner-requires-clause-inner
inner-requires-clause-inner g c = rw c.place.ensures (inner_cell c.requires.on_grid c.if-row-ge1.true c.if-row-grid.true c.if-col-ge1.true c.if-col-grid.true)
