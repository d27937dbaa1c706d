-- `sheet::compass::is_arrow` meets its contract: what `meaning_of` answered tells it.
-- Assumes nothing.
use mathlib.Core.Path.{sym, ◌∙◌}
use Rattle.sheet.proofs.Meaning.{meaning_arrow, not_arrow}
use Rattle.sheet.proofs.compass.is_arrow.Goals as goal

pub returns-in-Arrow : goal.returns-in-Arrow
returns-in-Arrow c = sym (meaning_arrow _ (sym c.meaning_of.ensures ∙ c.in-Arrow.is)).0

pub returns-in_default : goal.returns-in_default
returns-in_default c = sym (not_arrow _ (λ s e. c.in_default.not-Arrow s (c.meaning_of.ensures ∙ e)))
