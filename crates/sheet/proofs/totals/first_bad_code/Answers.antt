-- `sheet::totals::first_bad_code` meets its contract: where no code is bad, each is good.
-- Assumes nothing.
use mathlib.Core.Path.{sym, ◌∙◌}
use Rattle.sheet.proofs.Gather.{none_bad}
use Rattle.sheet.proofs.totals.first_bad_code.Goals as goal

pub returns-then-bad_number-eq0 : goal.returns-then-bad_number-eq0
returns-then-bad_number-eq0 c = none_bad c.args.grid.now (sym c.bad_number.ensures ∙ c.if-bad_number-eq0.true)
