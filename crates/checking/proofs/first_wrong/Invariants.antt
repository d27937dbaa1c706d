-- The loop of `checking::first_wrong`: what it keeps.
use Prim.Native.Nat.{◌*◌}
use Rattle.checking.specs.Leaf.{RightBelow}
use Rattle.checking.proofs.first_wrong.Given as goal

abbrev pub invariant-loop-row : goal.invariant-loop-row
invariant-loop-row l = RightBelow l.grid l.counts (l.row * l.grid.sheet.cols)
