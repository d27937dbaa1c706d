-- `text::read_first` meets its contract: two numbers, the first ended by a space and the second by a newline.
-- Assumes nothing.
use Rattle.std.proofs.lemmas.Result.{err_from_is_err_and}
use Rattle.text.proofs.Begin.{first_rows, first_cols, opens_read}
use Rattle.text.proofs.read_first.Goals as goal

pub returns-in_err-rows : goal.returns-in_err-rows
returns-in_err-rows c =
    let p = err_from_is_err_and c.from_residual.result c.from_residual.ensures.1 in
    rw (p.1, p.2) (first_rows _ _ c.in_err-rows.ensures.1)

pub returns-in_err-cols : goal.returns-in_err-cols
returns-in_err-cols c =
    let p = err_from_is_err_and c.from_residual-in_err-cols.result c.from_residual-in_err-cols.ensures.1 in
    let first = c.in_ok-rows.ensures in
    let told = c.in_err-cols.ensures in
    rw (p.1, p.2) (first_cols _ _ _ _ first.0 first.1 first.2 told.0 told.1)

pub returns : goal.returns
returns c =
    let first = c.in_ok-rows.ensures in
    let told = c.in_ok-cols.ensures in
    (told.1, opens_read _ _ _ _ _ first.0 told.0 first.2 told.2)
