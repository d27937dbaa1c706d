-- `scan::scan` meets its contract: nothing is counted at first, and there are no more outlets than cells.
-- Assumes nothing.
use mathlib.Core.Path.{ap, ◌∙◌}
use Prim.Native.Nat.{◌*◌}
use lib.ListN.{length, length-replicate}
use native.Mathlib.Omega.{arith}
use Rattle.sheet.proofs.Grids.{grid_laid}
use Rattle.sheet.proofs.Places.{laid_area}
use Rattle.scan.proofs.Scanning.{found_le, none_found, scan_begins, scan_place_on}
use Rattle.scan.proofs.scan.Goals as goal

pub loop-row-init : goal.loop-row-init
loop-row-init c =
    let d = c.args.grid.now in
    record {
      counting = scan_place_on d.sheet.rows d.sheet.cols d.codes.now c.args.more.now _ (omega arith) (scan_begins d.sheet.rows d.sheet.cols d.codes.now c.args.more.now c.requires.weights_fit c.requires.counts_clear);
      outlets_found = none_found d.sheet.rows d.sheet.cols d.codes.now c.args.more.now c.requires.counts_clear;
    }

pub overflow_add-outlets : goal.overflow_add-outlets
overflow_add-outlets c =
    let d = c.args.grid.now in
    omega (
      arith,
      c.loop-row.invariant.outlets_found,
      c.scan_row-outlets.ensures.counts_after,
      found_le d.sheet.rows d.sheet.cols d.codes.now c.args.more.now c.scan_row-outlets.new.counts,
      laid_area (grid_laid d (ap length c.requires.counts_clear ∙ length-replicate (d.sheet.rows * d.sheet.cols) 0)),
    )
