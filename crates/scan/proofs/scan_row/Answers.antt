-- `scan::scan_row` meets its contract: there are no more outlets than cells.
-- Assumes nothing.
use native.Mathlib.Omega.{arith}
use Rattle.sheet.proofs.Grids.{grid_laid}
use Rattle.sheet.proofs.Places.{laid_area}
use Rattle.scan.proofs.Scanning.{found_le}
use Rattle.scan.proofs.scan_row.Goals as goal

pub overflow_add-outlets : goal.overflow_add-outlets
overflow_add-outlets c =
    let d = c.args.grid.now in
    omega (arith, c.loop-col.invariant.outlets_found, c.scan_place-outlets.ensures.counts_after, found_le d.sheet.rows d.sheet.cols d.codes.now c.args.more.now c.scan_place-outlets.new.counts, laid_area (grid_laid d c.requires.counts_len))
