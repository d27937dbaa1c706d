-- `text::parse` meets its contract: the first line, the test of its sides, and the lines of codes each answer a case of `Parses`.
-- Assumes nothing.
use mathlib.Core.Path.{ap, ◌∙◌}
use Rattle.std.specs.Prelude.{Err}
use Rattle.std.proofs.lemmas.List.{take_rest}
use Rattle.std.proofs.lemmas.Result.{err_from_is_err_and}
use Rattle.text.proofs.Proper.{parse_bad, parse_shape, parse_broken}
use Rattle.text.proofs.parse.Goals as goal

pub returns-in_err-first : goal.returns-in_err-first
returns-in_err-first c =
    let p = err_from_is_err_and c.from_residual.result c.from_residual.ensures.1 in
    let grid = c.args.grid.now in
    rw (p.1, p.2) (parse_bad c.args.text.now grid grid c.in_err-first.field-0.0 c.in_err-first.ensures)

pub returns-in_err-shape : goal.returns-in_err-shape
returns-in_err-shape c =
    let p = err_from_is_err_and c.from_residual-in_err-shape.result c.from_residual-in_err-shape.ensures.1 in
    let none = c.in_err-shape.ensures.ok_part in
    let grid = c.args.grid.now in
    rw (p.1 ∙ ap Err p.2 ∙ rw none at c.in_err-shape.ensures.value) (parse_shape c.args.text.now grid grid _ _ c.in_ok-first.first.next c.in_ok-first.ensures (rw none at c.new.ensures))

pub returns-in-Err : goal.returns-in-Err
returns-in-Err c =
    let made = rw c.in_ok-shape.ensures.ok_part at c.new.ensures in
    let first = rw (← made.1, ← made.2) at c.in_ok-first.ensures in
    parse_broken c.args.text.now c.args.grid.now c.read_body.new.grid c.in_ok-shape.shape c.in_ok-first.first.next first c.in-Err.stop (rw take_rest at c.in-Err.ensures)
