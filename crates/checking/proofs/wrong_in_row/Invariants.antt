-- The loop of `checking::wrong_in_row`: what it keeps.
use Prim.Native.Nat.{◌+◌, ◌*◌}
use Rattle.checking.specs.Leaf.{RightBelow}
use Rattle.checking.proofs.wrong_in_row.Given as goal

abbrev pub invariant-loop-col : goal.invariant-loop-col
invariant-loop-col l = RightBelow l.grid l.counts (l.row * l.grid.sheet.cols + l.col)
