-- The loop of `sheet::totals::bad_number`: what it keeps.
use mathlib.Core.Path.{◌≡◌}
use Rattle.flow.specs.Net.{number}
use Rattle.sheet.specs.Leaves.{bad_at}
use Rattle.sheet.proofs.totals.bad_number.Given as goal

abbrev pub invariant-loop-code : goal.invariant-loop-code
invariant-loop-code l = l.n ≡ number l.code-index (bad_at l.grid)
