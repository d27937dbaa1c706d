-- `scan::settle` meets its contract: a step of the method.
-- Assumes nothing.
use mathlib.Core.Path.{sym}
use Prim.Native.Nat.{◌+◌, ◌*◌}
use native.Mathlib.Omega.{arith}
use Rattle.sheet.proofs.Grids.{grid_laid}
use Rattle.sheet.proofs.Spots.{cell_below}
use Rattle.scan.proofs.Step.{fits, settled, settled_less}
use Rattle.scan.proofs.settle.Goals as goal

pub overflow_add-counts : goal.overflow_add-counts
overflow_add-counts c =
    let d = c.args.grid.now in
    let own = rw c.place-p.ensures at c.own.ensures.value in
    omega (arith, fits d.sheet.rows d.sheet.cols d.codes.now c.args.more.now c.args.counts.now (c.args.at.row * d.sheet.cols + c.args.at.col) (grid_laid d c.requires.counts_len) c.requires.right_so_far (cell_below c.requires.on_grid) c.requires.to_count c.args.sum c.own.result own c.requires.looks_around)

pub overflow_cast-counts : goal.overflow_cast-counts
overflow_cast-counts c =
    let d = c.args.grid.now in
    let own = rw c.place-p.ensures at c.own.ensures.value in
    omega (arith, fits d.sheet.rows d.sheet.cols d.codes.now c.args.more.now c.args.counts.now (c.args.at.row * d.sheet.cols + c.args.at.col) (grid_laid d c.requires.counts_len) c.requires.right_so_far (cell_below c.requires.on_grid) c.requires.to_count c.args.sum c.own.result own c.requires.looks_around)

pub returns-in-Some-clause-moved : goal.returns-in-Some-clause-moved
returns-in-Some-clause-moved c =
    let d = c.args.grid.now in
    let own = rw c.place-p.ensures at c.own.ensures.value in
    rw c.place-p.ensures (settled d.sheet.rows d.sheet.cols d.codes.now c.args.more.now c.args.counts.now (c.args.at.row * d.sheet.cols + c.args.at.col) (grid_laid d c.requires.counts_len) c.requires.right_so_far (cell_below c.requires.on_grid) c.requires.to_count c.args.sum c.own.result own c.requires.looks_around c.in-Some.ensures.place_is)

pub returns-in-Some-clause-less : goal.returns-in-Some-clause-less
returns-in-Some-clause-less c =
    let d = c.args.grid.now in
    let own = rw c.place-p.ensures at c.own.ensures.value in
    rw c.place-p.ensures (settled_less d.sheet.rows d.sheet.cols d.codes.now c.args.more.now c.args.counts.now (c.args.at.row * d.sheet.cols + c.args.at.col) (grid_laid d c.requires.counts_len) c.requires.right_so_far (cell_below c.requires.on_grid) c.requires.to_count c.args.sum c.own.result own c.requires.looks_around _)

pub returns-in-None-clause-moved : goal.returns-in-None-clause-moved
returns-in-None-clause-moved c =
    let d = c.args.grid.now in
    let own = rw c.place-p.ensures at c.own.ensures.value in
    rw c.place-p.ensures (settled d.sheet.rows d.sheet.cols d.codes.now c.args.more.now c.args.counts.now (c.args.at.row * d.sheet.cols + c.args.at.col) (grid_laid d c.requires.counts_len) c.requires.right_so_far (cell_below c.requires.on_grid) c.requires.to_count c.args.sum c.own.result own c.requires.looks_around (sym c.in-None.ensures))

pub returns-in-None-clause-less : goal.returns-in-None-clause-less
returns-in-None-clause-less c =
    let d = c.args.grid.now in
    let own = rw c.place-p.ensures at c.own.ensures.value in
    rw c.place-p.ensures (settled_less d.sheet.rows d.sheet.cols d.codes.now c.args.more.now c.args.counts.now (c.args.at.row * d.sheet.cols + c.args.at.col) (grid_laid d c.requires.counts_len) c.requires.right_so_far (cell_below c.requires.on_grid) c.requires.to_count c.args.sum c.own.result own c.requires.looks_around _)
