-- `sheet::shape::Sheet::beside` meets its contract: a law of `step_from` for each way through it.
-- Assumes nothing.
use mathlib.Core.Path.{sym, ◌∙◌}
use Rattle.sheet.proofs.Places.{within_true}
use Rattle.sheet.proofs.Signed.{step_on, step_off_rows, step_off_cols}
use Rattle.sheet.proofs.Spots.{spot_on}
use Rattle.sheet.proofs.shape.Sheet.beside.Goals as goal
use Rattle.sheet.proofs.shape.Sheet.beside.Goals.{else-is_within-via-then-is_within+else-is_within-2, else-is_within-via-else-is_within}

pub overflow_sub-result : goal.overflow_sub-result
overflow_sub-result c = (within_true _ _ (sym c.is_within.ensures ∙ c.if-is_within.true)).0

pub overflow_sub-result-then-is_within-2 : goal.overflow_sub-result-then-is_within-2
overflow_sub-result-then-is_within-2 c = (within_true _ _ (sym c.is_within-then-is_within.ensures ∙ c.if-is_within-2.true)).0

pub returns-then-is_within-2 : goal.returns-then-is_within-2
returns-then-is_within-2 c =
    spot_on c.args.self.rows c.args.self.cols _ _ (sym c.is_within.ensures ∙ c.if-is_within.true) (sym c.is_within-then-is_within.ensures ∙ c.if-is_within-2.true)
    (step_on _ _ _ _ _ c.requires.code_is_arrow c.requires.on_sheet.col_in c.after-past.ensures.row c.after-past.ensures.col (sym c.is_within.ensures ∙ c.if-is_within.true) (sym c.is_within-then-is_within.ensures ∙ c.if-is_within-2.true))

pub returns-else-is_within : goal.returns-else-is_within
returns-else-is_within c = sym (elim c.else-is_within.branch [
  | else-is_within-via-then-is_within+else-is_within-2 w ↦ step_off_cols _ _ _ _ _ c.requires.code_is_arrow c.requires.on_sheet.col_in c.after-past.ensures.row c.after-past.ensures.col (sym c.is_within.ensures ∙ w.if-is_within.true) (sym w.is_within-then-is_within.ensures ∙ w.if-is_within-2.false)
  | else-is_within-via-else-is_within w ↦ step_off_rows _ _ _ _ _ c.requires.code_is_arrow c.requires.on_sheet.col_in c.after-past.ensures.row (sym c.is_within.ensures ∙ w.if-is_within.false)
])
