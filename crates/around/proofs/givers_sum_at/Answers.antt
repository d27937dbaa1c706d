-- `around::givers_sum_at` meets its contract: what is left of the eight weighed counts without the large numbers.
-- Assumes nothing.
use Prim.Native.Nat.{◌+◌, ◌*◌}
use Rattle.sheet.proofs.Spots.{cell_place}
use Rattle.around.proofs.Weigh.{givers_rest}
use Rattle.around.proofs.givers_sum_at.Goals as goal

pub returns : goal.returns
returns c =
    let d = c.args.grid.now in
    givers_rest d.sheet.rows d.sheet.cols d.codes.now c.args.counts.now (c.args.at.row * d.sheet.cols + c.args.at.col) (cell_place c.requires.on_grid) d.long c.requires.on_land (λ q. (c.type_inv.counts q).fits)
    c.neighbours.ensures
