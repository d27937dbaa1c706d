-- `sheet::totals::bad_number` meets its contract: the number of the places passed that the test passes.
-- Assumes nothing.
use mathlib.Core.Bool.{not}
use mathlib.Core.Path.{ap, ◌∙◌}
use native.Mathlib.Omega.{arith}
use Prim.Native.Nat.{◌<◌}
use lib.ListN.{length}
use Rattle.flow.specs.Net.{sum}
use Rattle.sheet.specs.Leaves.{bad_at}
use Rattle.sheet.proofs.Gather.{one_more, none_more, number_le, bad_read}
use borrow.Author.Rules.{rules}
use Rattle.sheet.proofs.totals.bad_number.Goals as goal
use Rattle.sheet.proofs.totals.bad_number.Goals.{then-not-is_code, else-not-is_code}

pub loop-code-init : goal.loop-code-init
unfolding sum
loop-code-init c = search rules

pub overflow_add-n : goal.overflow_add-n
overflow_add-n c = omega (arith, number_le c.loop-code.code-index (bad_at c.args.grid.now))

pub loop-code-preserved : goal.loop-code-preserved
loop-code-preserved c =
    let g = c.args.grid.now in
    let i = c.loop-code.code-index in
    let l : i < length g = omega arith in
    let read = bad_read g i l c.is_code.ensures in
    elim c.if-not-is_code.branch [ then-not-is_code w ↦ omega (arith, one_more (bad_at g) i c.loop-code.invariant (read ∙ ap not w.if-not-is_code.true)) | else-not-is_code w ↦ omega (arith, none_more (bad_at g) i c.loop-code.invariant (read ∙ ap not w.if-not-is_code.false)) ]
