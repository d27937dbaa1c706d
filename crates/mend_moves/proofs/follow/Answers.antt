-- `mend_moves::follow` meets its contract: the water comes back, or it leaves.
-- Assumes nothing.
use native.Mathlib.Omega.{arith}
use Rattle.sheet.specs.Grid.{cells_in, dest_in}
use Rattle.sheet.proofs.Grids.{grid_laid}
use Rattle.sheet.proofs.Places.{laid_area}
use Rattle.mend_moves.proofs.Following.{landed, way_begins, way_on, way_short, way_back, way_out}
use Rattle.mend_moves.proofs.follow.Goals as goal

pub loop-next-init : goal.loop-next-init
loop-next-init c =
    let g = c.args.grid.now in
    let next = landed _ _ _ c.dest-next.ensures in
    record { way = way_begins (dest_in g) c.args.start next.0; lands = next.1 }

pub overflow_add-length : goal.overflow_add-length
overflow_add-length c =
    let g = c.args.grid.now in
    let way = rw c.in-Some.is at c.loop-next.invariant.way in
    let lands = rw c.in-Some.is at c.loop-next.invariant.lands in
    omega (arith, laid_area (grid_laid g g.long), way_short g.sheet.rows g.sheet.cols g.codes.now c.args.start g.long c.requires.start_bound c.requires.no_other_loop c.loop-next.first c.loop-next.further c.in-Some.p way lands)

pub returns-then-p-start : goal.returns-then-p-start
returns-then-p-start c =
    let g = c.args.grid.now in
    let way = rw c.in-Some.is at c.loop-next.invariant.way in
    let lands = rw c.in-Some.is at c.loop-next.invariant.lands in
    way_back g.sheet.rows g.sheet.cols g.codes.now c.args.start g.long c.requires.start_bound c.requires.no_other_loop c.loop-next.first c.loop-next.further c.in-Some.p way c.if-p-start.true

pub overflow_add-further : goal.overflow_add-further
overflow_add-further c =
    let g = c.args.grid.now in
    let way = rw c.in-Some.is at c.loop-next.invariant.way in
    let lands = rw c.in-Some.is at c.loop-next.invariant.lands in
    omega (arith, laid_area (grid_laid g g.long), way_short g.sheet.rows g.sheet.cols g.codes.now c.args.start g.long c.requires.start_bound c.requires.no_other_loop c.loop-next.first c.loop-next.further c.in-Some.p way lands)

pub loop-next-smaller : goal.loop-next-smaller
loop-next-smaller c =
    let g = c.args.grid.now in
    let way = rw c.in-Some.is at c.loop-next.invariant.way in
    let lands = rw c.in-Some.is at c.loop-next.invariant.lands in
    omega (arith, way_short g.sheet.rows g.sheet.cols g.codes.now c.args.start g.long c.requires.start_bound c.requires.no_other_loop c.loop-next.first c.loop-next.further c.in-Some.p way lands)

pub loop-next-preserved : goal.loop-next-preserved
loop-next-preserved c =
    let g = c.args.grid.now in
    let way = rw c.in-Some.is at c.loop-next.invariant.way in
    let next = landed _ _ _ c.dest-next-in-Some.ensures in
    record { way = rw c.min-first.ensures (way_on (dest_in g) c.args.start c.loop-next.first c.loop-next.further c.in-Some.p way c.if-p-start.false next.0); lands = next.1 }

pub returns : goal.returns
returns c =
    let g = c.args.grid.now in
    way_out g.sheet.rows g.sheet.cols g.codes.now c.args.start g.long c.requires.start_bound c.requires.no_other_loop c.loop-next.first c.loop-next.further (cells_in g) (rw c.in_default.is at c.loop-next.invariant.way) (omega arith)
