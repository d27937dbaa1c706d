-- The loop of `mend_moves::follow`: what it keeps, and what falls.
use Prim.Native.Nat.{◌-◌}
use Rattle.sheet.specs.Grid.{cells_in, dest_in}
use Rattle.mend_moves.specs.Moves.{OnWay, Lands, landing}
use Rattle.mend_moves.proofs.follow.Given as goal

abbrev pub invariant-loop-next : goal.invariant-loop-next
invariant-loop-next l = record { way : OnWay (dest_in l.grid) l.start l.first l.further (landing (cells_in l.grid) l.next); lands : Lands (cells_in l.grid) l.next }

abbrev pub decreases-loop-next : goal.decreases-loop-next
decreases-loop-next l = cells_in l.grid - l.further
