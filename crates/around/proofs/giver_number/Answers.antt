-- `around::giver_number` meets its contract: the bridge, with 1 for each giver.
-- Assumes nothing.
use mathlib.Core.Path.{sym, ◌∙◌}
use Prim.Native.Nat.{◌+◌, ◌*◌}
use Rattle.flow.proofs.Sum.{on_true}
use Rattle.around.specs.Weight.{one}
use Rattle.around.proofs.Bridge.{bridge}
use Rattle.sheet.proofs.Spots.{cell_place}
use Rattle.around.proofs.giver_number.Goals as goal

pub returns : goal.returns
returns c =
    let d = c.args.grid.now in
    c.neighbours.ensures ∙ sym (bridge d.sheet.rows d.sheet.cols d.codes.now one (c.args.at.row * d.sheet.cols + c.args.at.col) (cell_place c.requires.on_grid) d.long ∙ on_true _ c.requires.on_land)
