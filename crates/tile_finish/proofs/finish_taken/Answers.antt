-- `tile_finish::finish_taken` meets its contract: the scan counts with what comes in, and a land cell is left, or none.
-- Assumes nothing.
use mathlib.Core.Path.{◌≡◌}
use lib.ListN.{replicate}
use Rattle.sheet.specs.Grid.{cells_in}
use borrow.Author.Rules.{rules}
use Rattle.loops.proofs.First.{left_on_loop}
use Rattle.tile_finish.proofs.Answers.{answers_loop, answers_done}
use Rattle.tile_finish.proofs.Weights.{weights_fit}
use Rattle.tile_finish.proofs.finish_taken.Goals as goal

pub scan-requires-clause-weights_fit : goal.scan-requires-clause-weights_fit
scan-requires-clause-weights_fit c =
    let i = c.args.incoming.now in
    weights_fit i.grid.sheet.rows i.grid.sheet.cols i.grid.codes.now i.numbers.now c.requires.taken _ c.spread.ensures i.small

pub loop_length-length-requires : goal.loop_length-length-requires
loop_length-length-requires c =
    let g = c.args.incoming.now.grid in
    left_on_loop g.sheet.rows g.sheet.cols g.codes.now _ _ g.long c.scan.ensures.counting (rw c.in-Some.is at c.first_left-left.ensures)

pub returns-in_default : goal.returns-in_default
returns-in_default c =
    let i = c.args.incoming.now in
    let z : c.clear-3.new.buffer ≡ replicate (cells_in i.grid) 0 = search rules in
    answers_done i.grid.sheet.rows i.grid.sheet.cols i.grid.codes.now i.numbers.now c.spread.new.work _ i.grid.long c.scan.ensures.counting c.requires.taken c.spread.ensures (rw c.in_default.is at c.first_left-left.ensures) z

pub returns : goal.returns
returns c =
    let i = c.args.incoming.now in
    let z : c.clear-3.new.buffer ≡ replicate (cells_in i.grid) 0 = search rules in
    let y : c.clear-4.new.buffer ≡ replicate (cells_in i.grid) 0 = search rules in
    answers_loop i.grid.sheet.rows i.grid.sheet.cols i.grid.codes.now i.numbers.now _ _ i.grid.long c.scan.ensures.counting (rw c.in-Some.is at c.first_left-left.ensures) c.loop_length-length.ensures y z
