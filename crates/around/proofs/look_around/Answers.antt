-- `around::look_around` meets its contract: the sum of the eight weighed counts tells whether a giver has none yet.
-- Assumes nothing.
use Prim.Native.Nat.{◌+◌, ◌*◌}
use Rattle.sheet.proofs.Spots.{cell_place}
use Rattle.around.proofs.Weigh.{looks_ready, looks_waiting}
use Rattle.around.proofs.look_around.Goals as goal

pub returns-then-all-lt-NO_COUNT : goal.returns-then-all-lt-NO_COUNT
returns-then-all-lt-NO_COUNT c =
    let d = c.args.grid.now in
    looks_ready d.sheet.rows d.sheet.cols d.codes.now c.args.counts.now (c.args.at.row * d.sheet.cols + c.args.at.col) (cell_place c.requires.on_grid) d.long c.requires.on_land (λ q. (c.type_inv.counts q).fits)
    c.neighbours-all.ensures c.if-all-lt-NO_COUNT.true

pub returns-else-all-lt-NO_COUNT : goal.returns-else-all-lt-NO_COUNT
returns-else-all-lt-NO_COUNT c =
    let d = c.args.grid.now in
    looks_waiting d.sheet.rows d.sheet.cols d.codes.now c.args.counts.now (c.args.at.row * d.sheet.cols + c.args.at.col) (cell_place c.requires.on_grid) d.long c.requires.on_land (λ q. (c.type_inv.counts q).fits)
    c.neighbours-all.ensures c.if-all-lt-NO_COUNT.false
