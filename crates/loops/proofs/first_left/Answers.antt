-- `loops::first_left` meets its contract: where none is left, no place is; and else the search stops at the first that is.
-- Assumes nothing.
use mathlib.Core.Path.{◌≡◌, sym, ◌∙◌}
use mathlib.Core.Bool.{true, false}
use lib.ListN.{length}
use Rattle.std.proofs.lemmas.Iterator.{first_from_Range}
use Rattle.sheet.proofs.Gather.{number_none}
use Rattle.loops.specs.Left.{left_at}
use Rattle.loops.proofs.Left.{finds_left}
use borrow.Author.Rules.{rules}
use borrow.Author.Tests.{tests}
use Rattle.loops.proofs.first_left.Goals as goal

pub returns-then-left_number-eq0 : goal.returns-then-left_number-eq0
returns-then-left_number-eq0 c =
    let a = c.args in
    number_none (length a.grid.now) (left_at a.grid.now a.counts.now) (sym c.left_number.ensures ∙ c.if-left_number-eq0.true)

pub returns : goal.returns
returns c =
    let a = c.args in
    finds_left a.grid.now a.counts.now (length a.grid.now) _ (first_from_Range _ _ _ _ (λ x. left_at a.grid.now a.counts.now x ≡ true) (λ x. left_at a.grid.now a.counts.now x ≡ false) c.find.ensures.ran (λ x q k. search (rules, tests)) (λ x q k. search (rules, tests)))
