-- `sheet::grid::Grid::is_land` meets its contract: the code that is read there is the code of the place.
-- Assumes nothing.
use mathlib.Core.Path.{◌∙◌}
use native.Mathlib.Omega.{arith}
use Rattle.sheet.proofs.Dest.{land_read}
use Rattle.sheet.proofs.grid.Grid.is_land.Goals as goal

pub returns : goal.returns
returns c =
    let g = c.args.self.now in
    c.is_arrow.ensures ∙ land_read g.codes.now c.args.p (omega (arith, g.long))
