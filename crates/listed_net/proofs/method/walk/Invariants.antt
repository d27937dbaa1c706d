-- The loop of `listed_net::method::walk`: the net has moved on from the start, and fewer cells are left.
use Rattle.std.proofs.Common.{Some}
use Rattle.listed_net.specs.Method.{Moved, left}
use Rattle.listed_net.proofs.method.walk.Given as goal

abbrev pub invariant-loop-next : goal.invariant-loop-next
invariant-loop-next l = Moved l.to l.initial.totals l.initial.waiting l.totals l.waiting (Some l.start) l.next

abbrev pub decreases-loop-next : goal.decreases-loop-next
decreases-loop-next l = left l.to l.waiting
