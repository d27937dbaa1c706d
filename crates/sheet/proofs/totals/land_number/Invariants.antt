-- The loop of `sheet::totals::land_number`: what it keeps.
use mathlib.Core.Path.{◌≡◌}
use Rattle.flow.specs.Net.{number}
use Rattle.sheet.specs.Sheet.{land_at}
use Rattle.sheet.proofs.totals.land_number.Given as goal

abbrev pub invariant-loop-code : goal.invariant-loop-code
invariant-loop-code l = l.n ≡ number l.code-index (land_at l.grid)
