-- `around::edge` meets its contract: each neighbour is sought by the opposite step.
-- Assumes nothing.
use Rattle.sheet.specs.Compass.{step_of, line_of}
use Rattle.around.specs.Around.{term}
use Rattle.around.proofs.Weigh.{sum_eight}
use Rattle.around.proofs.edge.Goals as goal

pub returns : goal.returns
unfolding term step_of line_of
returns g c =
    sum_eight _
    c.seen_from-east.ensures.value
    c.seen_from-south_east.ensures.value
    c.seen_from-south.ensures.value
    c.seen_from-south_west.ensures.value
    c.seen_from-west.ensures.value
    c.seen_from-north_west.ensures.value
    c.seen_from-north.ensures.value
    c.seen_from-north_east.ensures.value
