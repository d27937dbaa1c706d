-- The loop of `round::others_on_loop`: it is on its way round, and fewer cells are left.
use Rattle.std.proofs.Common.{◌-◌}
use Rattle.round.proofs.Way.{Way}
use Rattle.round.proofs.others_on_loop.Given as goal

abbrev pub invariant-loop-next : goal.invariant-loop-next
invariant-loop-next g l = Way (g.N.Net.cells l.net) (g.N.Net.to l.net) l.start l.here l.others

abbrev pub decreases-loop-next : goal.decreases-loop-next
decreases-loop-next g l = g.N.Net.cells l.net - l.others
