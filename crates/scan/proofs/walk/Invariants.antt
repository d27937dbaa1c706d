-- The loop of `scan::walk`: what it keeps, and what falls.
use Rattle.scan.specs.Grid.{MovedIn, OnwardIn, left_in, gone}
use Rattle.scan.proofs.walk.Given as goal

abbrev pub invariant-loop-onward : goal.invariant-loop-onward
invariant-loop-onward l = record { moved : MovedIn l.grid l.more l.initial.counts l.counts (gone l.grid l.initial.onward) (gone l.grid l.onward); onward : OnwardIn l.grid l.onward }

abbrev pub decreases-loop-onward : goal.decreases-loop-onward
decreases-loop-onward l = left_in l.grid l.counts (gone l.grid l.onward)
