-- `mend_moves::take_out` meets its contract: what was downstream owes the count that is taken out.
-- Assumes nothing.
use native.Mathlib.Omega.{arith}
use Rattle.sheet.proofs.Places.{laid_of}
use Rattle.mend_moves.proofs.Following.{landed}
use Rattle.mend_moves.proofs.Moves.{lent_free, taken_free, taken_owes, taken_small}
use Rattle.mend_moves.proofs.take_out.Goals as goal

pub carry-requires-clause-no_loop : goal.carry-requires-clause-no_loop
carry-requires-clause-no_loop c =
    let a = c.args in
    taken_free a.sheet.rows a.sheet.cols a.codes.now a.place c.requires.codes_len c.requires.place_bound (lent_free a.sheet.rows a.sheet.cols a.codes.now a.counts.now a.place (laid_of a.sheet.bounds (omega arith) c.requires.codes_len c.requires.counts_len) c.requires.place_bound c.requires.sheet_counts)

pub carry-requires-clause-owing : goal.carry-requires-clause-owing
carry-requires-clause-owing c =
    let a = c.args in
    taken_owes a.sheet.rows a.sheet.cols a.codes.now a.counts.now a.place (laid_of a.sheet.bounds (omega arith) c.requires.codes_len c.requires.counts_len) c.requires.place_bound c.requires.sheet_counts (landed _ _ _ c.dest-next.ensures).0

pub carry-requires-clause-less_bound : goal.carry-requires-clause-less_bound
carry-requires-clause-less_bound c =
    let a = c.args in
    taken_small a.sheet.rows a.sheet.cols a.codes.now a.counts.now a.place (laid_of a.sheet.bounds (omega arith) c.requires.codes_len c.requires.counts_len) c.requires.place_bound c.requires.sheet_counts
