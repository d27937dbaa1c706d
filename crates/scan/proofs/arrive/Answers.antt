-- `scan::arrive` meets its contract: a cell that waits; the rest is what `settle` does.
-- Assumes nothing.
use Prim.Native.Nat.{◌+◌, ◌*◌}
use native.Mathlib.Omega.{arith}
use Rattle.sheet.proofs.Grids.{grid_laid}
use Rattle.sheet.proofs.Spots.{cell_below}
use Rattle.scan.proofs.Step.{waited, waited_less}
use Rattle.scan.proofs.arrive.Goals as goal

pub returns-in-None-clause-moved : goal.returns-in-None-clause-moved
returns-in-None-clause-moved c =
    let d = c.args.grid.now in
    waited d.sheet.rows d.sheet.cols d.codes.now c.args.more.now c.args.counts.now (c.args.at.row * d.sheet.cols + c.args.at.col) (grid_laid d c.requires.counts_len) c.requires.right_so_far (cell_below c.requires.on_grid) c.requires.to_count (d.sheet.rows * d.sheet.cols + 1) (omega arith) c.in-None.ensures

pub returns-in-None-clause-less : goal.returns-in-None-clause-less
returns-in-None-clause-less c =
    let d = c.args.grid.now in
    waited_less d.sheet.rows d.sheet.cols d.codes.now c.args.more.now c.args.counts.now (c.args.at.row * d.sheet.cols + c.args.at.col) (grid_laid d c.requires.counts_len) c.requires.right_so_far (cell_below c.requires.on_grid) c.requires.to_count (d.sheet.rows * d.sheet.cols + 1) (omega arith)
