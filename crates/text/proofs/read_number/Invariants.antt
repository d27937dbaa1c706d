-- The loop of `text::read_number`: nothing has been read yet, or digits.
use Prim.Native.Nat.{◌+◌}
use Rattle.text.proofs.Scan.{Begun}
use Rattle.text.proofs.read_number.Given as goal

abbrev pub invariant-loop-i : goal.invariant-loop-i
invariant-loop-i l = Begun l.text l.at l.value (l.at + l.i)
