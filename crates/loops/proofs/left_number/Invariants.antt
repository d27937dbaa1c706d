-- The loop of `loops::left_number`: what it keeps.
use mathlib.Core.Path.{◌≡◌}
use Rattle.flow.specs.Net.{number}
use Rattle.loops.specs.Left.{left_at}
use Rattle.loops.proofs.left_number.Given as goal

abbrev pub invariant-loop-p : goal.invariant-loop-p
invariant-loop-p l = l.n ≡ number l.p (left_at l.grid l.counts)
