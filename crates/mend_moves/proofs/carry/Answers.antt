-- `mend_moves::carry` meets its contract: each turn sets one cell right, and the next one owes what it owed.
-- Assumes nothing.
use Rattle.sheet.proofs.Grids.{grid_laid}
use Rattle.mend_moves.proofs.Following.{landed}
use Rattle.mend_moves.proofs.Owes.{fits, carried, carried_less}
use Rattle.mend_moves.proofs.carry.Goals as goal

pub overflow_add-counts : goal.overflow_add-counts
overflow_add-counts c =
    let g = c.args.grid.now in
    let owing = rw c.in-Some.is at c.loop-next.invariant.owing in
    let lands = rw c.in-Some.is at c.loop-next.invariant.lands in
    record { fits = fits g.sheet.rows g.sheet.cols g.codes.now c.loop-next.counts c.in-Some.p c.args.more c.args.less (grid_laid g owing.long) c.requires.no_loop owing c.requires.less_bound lands }

pub loop-next-smaller : goal.loop-next-smaller
loop-next-smaller c =
    let g = c.args.grid.now in
    let owing = rw c.in-Some.is at c.loop-next.invariant.owing in
    let lands = rw c.in-Some.is at c.loop-next.invariant.lands in
    rw c.in-Some.is (carried_less g.sheet.rows g.sheet.cols g.codes.now c.loop-next.counts c.in-Some.p c.args.more c.args.less (grid_laid g owing.long) c.requires.no_loop owing c.requires.less_bound lands (landed _ _ _ c.dest-next.ensures).0)

pub loop-next-preserved : goal.loop-next-preserved
loop-next-preserved c =
    let g = c.args.grid.now in
    let owing = rw c.in-Some.is at c.loop-next.invariant.owing in
    let lands = rw c.in-Some.is at c.loop-next.invariant.lands in
    let next = landed _ _ _ c.dest-next.ensures in
    record { owing = carried g.sheet.rows g.sheet.cols g.codes.now c.loop-next.counts c.in-Some.p c.args.more c.args.less (grid_laid g owing.long) c.requires.no_loop owing c.requires.less_bound lands next.0; lands = next.1 }
