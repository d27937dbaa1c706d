-- `sheet::totals::land_number` meets its contract: the number of the places passed that the test passes.
-- Assumes nothing.
use mathlib.Core.Path.{sym, ◌∙◌}
use native.Mathlib.Omega.{arith}
use Prim.Native.Nat.{◌<◌}
use lib.ListN.{length}
use Rattle.flow.specs.Net.{sum}
use Rattle.sheet.specs.Sheet.{land_at}
use Rattle.sheet.proofs.Dest.{land_read}
use Rattle.sheet.proofs.Gather.{one_more, none_more, number_le}
use borrow.Author.Rules.{rules}
use Rattle.sheet.proofs.totals.land_number.Goals as goal
use Rattle.sheet.proofs.totals.land_number.Goals.{then-is_arrow, else-is_arrow}

pub loop-code-init : goal.loop-code-init
unfolding sum
loop-code-init c = search rules

pub overflow_add-n : goal.overflow_add-n
overflow_add-n c = omega (arith, number_le c.loop-code.code-index (land_at c.args.grid.now))

pub loop-code-preserved : goal.loop-code-preserved
loop-code-preserved c =
    let g = c.args.grid.now in
    let i = c.loop-code.code-index in
    let l : i < length g = omega arith in
    let read = c.is_arrow.ensures ∙ land_read g i l in
    elim c.if-is_arrow.branch [ then-is_arrow w ↦ omega (arith, one_more (land_at g) i c.loop-code.invariant (sym read ∙ w.if-is_arrow.true)) | else-is_arrow w ↦ omega (arith, none_more (land_at g) i c.loop-code.invariant (sym read ∙ w.if-is_arrow.false)) ]
