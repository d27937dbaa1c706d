-- `sheet::step::after` meets its contract: the step of an arrow is small, and every other code was ruled out.
-- Assumes nothing.
use mathlib.Core.Bool.{true≢false}
use mathlib.Core.Path.{sym, ◌∙◌}
use Rattle.sheet.proofs.Signed.{arrow_row, arrow_col}
use Rattle.sheet.proofs.Meaning.{meaning_arrow, meaning_absent, meaning_bad}
use Rattle.sheet.proofs.step.after.Goals as goal

pub moved-requires : goal.moved-requires
moved-requires c =
    let e = meaning_arrow _ (sym c.meaning_of.ensures ∙ c.in-Arrow.is) in
    let k = arrow_row _ e.0 in
    (c.requires.small.0, rw (← e.1, k.0) k.1)

pub moved-requires-in-Arrow : goal.moved-requires-in-Arrow
moved-requires-in-Arrow c =
    let e = meaning_arrow _ (sym c.meaning_of.ensures ∙ c.in-Arrow.is) in
    let k = arrow_col _ e.0 in
    (c.requires.small.1, rw (← e.1, k.0) k.1)

pub unreachable-requires : goal.unreachable-requires
unreachable-requires c = absurd (true≢false (sym c.requires.code_is_arrow ∙ (meaning_absent _ (sym c.meaning_of.ensures ∙ c.in-Absent.is)).0))

pub unreachable-requires-in-Bad : goal.unreachable-requires-in-Bad
unreachable-requires-in-Bad c = absurd (true≢false (sym c.requires.code_is_arrow ∙ (meaning_bad _ (sym c.meaning_of.ensures ∙ c.in-Bad.is)).0))

pub returns-clause-row : goal.returns-clause-row
returns-clause-row c =
    let e = meaning_arrow _ (sym c.meaning_of.ensures ∙ c.in-Arrow.is) in
    rw (c.moved.ensures, ← e.1, (arrow_row _ e.0).0)

pub returns-clause-col : goal.returns-clause-col
returns-clause-col c =
    let e = meaning_arrow _ (sym c.meaning_of.ensures ∙ c.in-Arrow.is) in
    rw (c.moved-in-Arrow.ensures, ← e.1, (arrow_col _ e.0).0)
