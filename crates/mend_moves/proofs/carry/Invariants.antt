-- The loop of `mend_moves::carry`: what it keeps, and what falls.
use Rattle.flow.proofs.Test.{to_go}
use Rattle.sheet.specs.Grid.{cells_in, dest_in}
use Rattle.mend_moves.specs.Moves.{OwingIn, Lands, landing}
use Rattle.mend_moves.proofs.carry.Given as goal

abbrev pub invariant-loop-next : goal.invariant-loop-next
invariant-loop-next l = record { owing : OwingIn l.grid l.counts (landing (cells_in l.grid) l.next) l.more l.less; lands : Lands (cells_in l.grid) l.next }

abbrev pub decreases-loop-next : goal.decreases-loop-next
decreases-loop-next l = to_go (cells_in l.grid) (dest_in l.grid) (landing (cells_in l.grid) l.next)
