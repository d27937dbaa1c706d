-- The loops of `text::read_body`: the numbers reached so far, in the bytes and in the grid.
use Prim.Native.Nat.{◌+◌, ◌*◌, ◌-◌}
use Rattle.text.proofs.Flat.{Reached, rights}
use Rattle.text.proofs.read_body.Given as goal

abbrev pub invariant-loop-row : goal.invariant-loop-row
invariant-loop-row l = Reached (l.shape.cols - 1) l.bytes l.fn.grid l.grid (l.shape.cols - 1) l.at (l.row * l.shape.cols)

abbrev pub invariant-loop-col : goal.invariant-loop-col
invariant-loop-col l = Reached (l.shape.cols - 1) l.bytes l.fn.grid l.grid (rights (l.shape.cols - 1) l.col) l.at (l.row * l.shape.cols + l.col)
