-- `mend_moves::look_ahead` meets its contract: the old code is stored again.
-- Assumes nothing.
use Rattle.sheet.proofs.Places.{laid_of}
use native.Mathlib.Omega.{arith}
use Rattle.mend_moves.proofs.Moves.{ahead_free, as_lent}
use Rattle.mend_moves.proofs.look_ahead.Goals as goal

pub follow-round-requires-clause-no_other_loop : goal.follow-round-requires-clause-no_other_loop
follow-round-requires-clause-no_other_loop c =
    let a = c.args in
    ahead_free a.sheet.rows a.sheet.cols a.codes.now a.place a.new (laid_of a.sheet.bounds (omega arith) c.requires.codes_len c.requires.codes_len) c.requires.place_bound c.requires.no_loop

pub returns-clause-codes_unchanged : goal.returns-clause-codes_unchanged
returns-clause-codes_unchanged c = as_lent c.args.codes.now c.args.place c.args.new
