-- `sheet::shape::Shape::new` meets its contract: what `is_within` answered tells each case.
-- Assumes nothing.
use mathlib.Core.Path.{sym, ◌∙◌}
use Rattle.sheet.proofs.Places.{made, outside}
use Rattle.sheet.proofs.shape.Shape.new.Goals as goal
use Rattle.sheet.proofs.shape.Shape.new.Goals.{else-is_within-via-then-is_within+else-is_within-2, else-is_within-via-else-is_within}

pub invariant_of-result : goal.invariant_of-result
invariant_of-result c = λ d. record { bounds = (made c.row.MOST _ _ (sym d.is_within.ensures ∙ d.if-is_within.true) (sym d.is_within-then-is_within.ensures ∙ d.if-is_within-2.true)).0 }

pub returns-else-is_within : goal.returns-else-is_within
returns-else-is_within c = λ d s. elim d.else-is_within.branch [
  | else-is_within-via-then-is_within+else-is_within-2 w ↦ outside _ c.row.MOST s.some_col s.cols_most (sym w.is_within-then-is_within.ensures ∙ w.if-is_within-2.false)
  | else-is_within-via-else-is_within w ↦ outside _ c.row.MOST s.some_row s.rows_most (sym d.is_within.ensures ∙ w.if-is_within.false)
]
