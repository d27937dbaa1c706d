-- `count::count_cells` meets its contract: a bad code, or what is said after the scan.
-- Assumes nothing.
use mathlib.Core.Path.{refl}
use Rattle.promise.specs.Links.UnlessAll.{refused_at, met_all}
use Rattle.sheet.proofs.Grids.{grid_laid}
use Rattle.scan.proofs.Scanning.{plain_fits}
use Rattle.count.proofs.count_cells.Goals as goal

pub returns-in-Some : goal.returns-in-Some
returns-in-Some c = refused_at _ (rw c.args.grid.now.long at c.in-Some.ensures) refl

pub scan-outlets-requires-clause-weights_fit : goal.scan-outlets-requires-clause-weights_fit
scan-outlets-requires-clause-weights_fit c = plain_fits (grid_laid c.args.grid.now c.args.grid.now.long)

pub returns : goal.returns
returns c = met_all (rw c.args.grid.now.long at c.in_default.ensures) c.answer.ensures
