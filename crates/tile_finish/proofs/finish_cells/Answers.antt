-- `tile_finish::finish_cells` meets its contract: 3, 10, and the rest.
-- Assumes nothing.
use mathlib.Core.Path.{refl}
use Rattle.promise.specs.Links.UnlessAll.{refused_at, met_all}
use Rattle.tile_finish.proofs.finish_cells.Goals as goal

pub returns-in-Some : goal.returns-in-Some
returns-in-Some c = refused_at _ (rw c.args.incoming.now.grid.long at (rw c.in-Some.is at c.first_bad_code.ensures)) refl

pub returns-in-Some-first_bad : goal.returns-in-Some-first_bad
returns-in-Some-first_bad c =
    met_all (rw c.args.incoming.now.grid.long at (rw c.in_default.is at c.first_bad_code.ensures)) (refused_at _ (rw c.in-Some-first_bad.is at c.first_bad.ensures) refl)

pub returns : goal.returns
returns c =
    met_all (rw c.args.incoming.now.grid.long at (rw c.in_default.is at c.first_bad_code.ensures)) (met_all (rw c.in_default-first_bad.is at c.first_bad.ensures) c.finish_taken.ensures)
