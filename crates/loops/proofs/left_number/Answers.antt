-- `loops::left_number` meets its contract: the number of the places passed that are left.
-- Assumes nothing.
use mathlib.Core.Path.{sym, ◌∙◌}
use native.Mathlib.Omega.{arith}
use Rattle.flow.specs.Net.{sum}
use Rattle.sheet.proofs.Gather.{one_more, none_more, number_le}
use Rattle.loops.specs.Left.{left_at}
use borrow.Author.Rules.{rules}
use Rattle.loops.proofs.left_number.Goals as goal
use Rattle.loops.proofs.left_number.Goals.{then-is_left, else-is_left}

pub loop-p-init : goal.loop-p-init
unfolding sum
loop-p-init c = search rules

pub overflow_add-n : goal.overflow_add-n
overflow_add-n c = let a = c.args in omega (arith, number_le c.loop-p.p (left_at a.grid.now a.counts.now))

pub loop-p-preserved : goal.loop-p-preserved
loop-p-preserved c =
    let left = left_at c.args.grid.now c.args.counts.now in
    let told = sym c.is_left.ensures in
    elim c.if-is_left.branch [ then-is_left w ↦ omega (arith, one_more left c.loop-p.p c.loop-p.invariant (told ∙ w.if-is_left.true)) | else-is_left w ↦ omega (arith, none_more left c.loop-p.p c.loop-p.invariant (told ∙ w.if-is_left.false)) ]
