-- The loops of `show::write_grid`: the numbers shown so far, each with the byte after it.
use Prim.Native.Nat.{◌+◌, ◌*◌, ◌-◌}
use Rattle.text.proofs.Flat.{rights}
use Rattle.show.proofs.Shown.{Shown}
use Rattle.show.proofs.write_grid.Given as goal

abbrev pub invariant-loop-row : goal.invariant-loop-row
invariant-loop-row l = Shown (l.cols - 1) l.numbers l.fn.to l.to (l.cols - 1) (l.row * l.cols)

abbrev pub invariant-loop-col : goal.invariant-loop-col
invariant-loop-col l = Shown (l.cols - 1) l.numbers l.fn.to l.to (rights (l.cols - 1) l.col) (l.row * l.cols + l.col)
