-- `mend::change` meets its contract: the code is already there, or it would close a loop, or the cell is taken out and put in.
-- Assumes nothing.
use native.Mathlib.Omega.{arith}
use Rattle.sheet.proofs.Places.{laid_of}
use Rattle.mend_moves.proofs.Moves.{lent_free}
use Rattle.mend.proofs.Answers.{answers_same, answers_loop, put_ready, answers_mended}
use Rattle.mend.proofs.change.Goals as goal

pub returns-then-codes-place : goal.returns-then-codes-place
returns-then-codes-place c =
    let a = c.args in
    answers_same a.sheet.rows a.sheet.cols a.codes.now a.counts.now a.place a.code (laid_of a.sheet.bounds (omega arith) c.requires.codes_len c.requires.counts_len) c.requires.sheet_counts c.if-codes-place.true

pub look_ahead-requires-clause-no_loop : goal.look_ahead-requires-clause-no_loop
look_ahead-requires-clause-no_loop c =
    let a = c.args in
    lent_free a.sheet.rows a.sheet.cols a.codes.now a.counts.now a.place (laid_of a.sheet.bounds (omega arith) c.requires.codes_len c.requires.counts_len) c.requires.place_bound c.requires.sheet_counts

pub put_in-requires-clause-sheet_counts : goal.put_in-requires-clause-sheet_counts
put_in-requires-clause-sheet_counts c =
    let a = c.args in
    (put_ready a.sheet.rows a.sheet.cols a.codes.now a.counts.now a.place a.code c.in_default.ensures.follows c.in_default.ensures.codes_unchanged c.take_out.ensures.codes_after c.requires.place_bound (laid_of a.sheet.bounds (omega arith) c.requires.codes_len c.requires.counts_len) c.take_out.ensures.counts_of).1.1.0

pub put_in-requires-clause-no_loop : goal.put_in-requires-clause-no_loop
put_in-requires-clause-no_loop c =
    let a = c.args in
    (put_ready a.sheet.rows a.sheet.cols a.codes.now a.counts.now a.place a.code c.in_default.ensures.follows c.in_default.ensures.codes_unchanged c.take_out.ensures.codes_after c.requires.place_bound (laid_of a.sheet.bounds (omega arith) c.requires.codes_len c.requires.counts_len) c.take_out.ensures.counts_of).1.1.1

pub returns-in-Some : goal.returns-in-Some
returns-in-Some c =
    let a = c.args in
    answers_loop a.sheet.rows a.sheet.cols a.codes.now a.counts.now a.place a.code c.in-Some.ensures.follows c.look_ahead.ensures.codes_unchanged

pub returns : goal.returns
returns c =
    let a = c.args in
    answers_mended a.sheet.rows a.sheet.cols a.codes.now a.counts.now a.place a.code c.in_default.ensures.follows c.in_default.ensures.codes_unchanged c.take_out.ensures.codes_after c.put_in.ensures.codes_after c.put_in.ensures.counts_of
