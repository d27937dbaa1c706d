-- `mend::mend_cell` meets its contract: 6 and 7 are passed.
-- Assumes nothing.
use mathlib.Core.Path.{sym, ◌∙◌}
use native.Mathlib.Omega.{arith}
use Rattle.promise.specs.Links.Unless.{met}
use Rattle.mend.proofs.mend_cell.Goals as goal

pub returns : goal.returns
returns c = met (omega (arith, c.cells.ensures)) (met (sym c.is_code.ensures ∙ c.if-not-is_code.false) c.change.ensures)
