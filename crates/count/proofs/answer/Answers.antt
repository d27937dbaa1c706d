-- `count::answer` meets its contract: a land cell is left, or none.
-- Assumes nothing.
use mathlib.Core.List.{[]}
use Rattle.count.proofs.Answers.{answers_loop, answers_done}
use Rattle.loops.proofs.First.{left_on_loop}
use Rattle.count.proofs.answer.Goals as goal

pub loop_length-length-requires : goal.loop_length-length-requires
loop_length-length-requires c =
    let g = c.args.grid.now in
    left_on_loop g.sheet.rows g.sheet.cols g.codes.now [] c.args.counts.now g.long c.requires.counting c.in-Some.ensures

pub returns-in-Some : goal.returns-in-Some
returns-in-Some c =
    let g = c.args.grid.now in
    answers_loop g.sheet.rows g.sheet.cols g.codes.now c.args.counts.now g.long c.requires.counting c.in-Some.ensures c.loop_length-length.ensures c.clear.ensures

pub returns : goal.returns
returns c =
    let g = c.args.grid.now in
    answers_done g.sheet.rows g.sheet.cols g.codes.now c.args.counts.now g.long c.requires.counting c.in_default.ensures c.land_number.ensures c.requires.outlets_found c.greatest.ensures
