-- `checking::check_cells` meets its contract: a bad code, a place that breaks the equation, or neither.
-- Assumes nothing.
use mathlib.Core.Path.{refl}
use Rattle.promise.specs.Links.UnlessAll.{refused_at, met_all}
use Rattle.checking.proofs.check_cells.Goals as goal

pub returns-in-Some : goal.returns-in-Some
returns-in-Some c = refused_at _ (rw c.args.grid.now.long at c.in-Some.ensures) refl

pub returns-in-Some-first_wrong : goal.returns-in-Some-first_wrong
returns-in-Some-first_wrong c = met_all (rw c.args.grid.now.long at c.in_default.ensures) (refused_at _ c.in-Some-first_wrong.ensures refl)

pub returns-in-None : goal.returns-in-None
returns-in-None c = met_all (rw c.args.grid.now.long at c.in_default.ensures) (met_all c.in-None.ensures refl)
