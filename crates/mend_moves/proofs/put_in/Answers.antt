-- `mend_moves::put_in` meets its contract: an absent cell adds nothing, a land cell owes 1 and what its givers hold.
-- Assumes nothing.
use mathlib.Core.Path.{sym, ◌∙◌}
use native.Mathlib.Omega.{arith}
use Rattle.sheet.proofs.Places.{laid_area, laid_of}
use Rattle.mend_moves.proofs.Moves.{put_absent, put_land, put_owes, put_small}
use Rattle.mend_moves.proofs.put_in.Goals as goal

pub returns-then-not-is_arrow-clause-counts_of : goal.returns-then-not-is_arrow-clause-counts_of
returns-then-not-is_arrow-clause-counts_of c =
    let a = c.args in
    put_absent a.sheet.rows a.sheet.cols a.codes.now a.counts.now a.place a.code (laid_of a.sheet.bounds (omega arith) c.requires.codes_len c.requires.counts_len) c.requires.place_bound c.requires.sheet_counts (sym c.is_arrow.ensures ∙ c.if-not-is_arrow.true)

pub givers_sum-own-requires-clause-on_land : goal.givers_sum-own-requires-clause-on_land
givers_sum-own-requires-clause-on_land c =
    let a = c.args in
    put_land a.sheet.rows a.sheet.cols a.codes.now a.counts.now a.place a.code (laid_of a.sheet.bounds (omega arith) c.requires.codes_len c.requires.counts_len) c.requires.place_bound c.requires.sheet_counts (sym c.is_arrow.ensures ∙ c.if-not-is_arrow.false)

pub overflow_add-own : goal.overflow_add-own
overflow_add-own c =
    let a = c.args in
    omega (arith, laid_area (laid_of a.sheet.bounds (omega arith) c.requires.codes_len c.requires.counts_len), put_small a.sheet.rows a.sheet.cols a.codes.now a.counts.now a.place a.code (laid_of a.sheet.bounds (omega arith) c.requires.codes_len c.requires.counts_len) c.requires.place_bound c.requires.sheet_counts (sym c.is_arrow.ensures ∙ c.if-not-is_arrow.false) c.givers_sum-own.ensures c.requires.no_loop)

pub overflow_cast-own : goal.overflow_cast-own
overflow_cast-own c =
    let a = c.args in
    omega (arith, laid_area (laid_of a.sheet.bounds (omega arith) c.requires.codes_len c.requires.counts_len), put_small a.sheet.rows a.sheet.cols a.codes.now a.counts.now a.place a.code (laid_of a.sheet.bounds (omega arith) c.requires.codes_len c.requires.counts_len) c.requires.place_bound c.requires.sheet_counts (sym c.is_arrow.ensures ∙ c.if-not-is_arrow.false) c.givers_sum-own.ensures c.requires.no_loop)

pub carry-requires-clause-owing : goal.carry-requires-clause-owing
carry-requires-clause-owing c =
    let a = c.args in
    put_owes a.sheet.rows a.sheet.cols a.codes.now a.counts.now a.place a.code (laid_of a.sheet.bounds (omega arith) c.requires.codes_len c.requires.counts_len) c.requires.place_bound c.requires.sheet_counts (sym c.is_arrow.ensures ∙ c.if-not-is_arrow.false) c.givers_sum-own.ensures
