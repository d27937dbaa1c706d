-- `sheet::grid::Grid::next` meets its contract: a law of `dest_of` for each way through it.
-- Assumes nothing.
use mathlib.Core.Path.{sym, ◌∙◌}
use Rattle.sheet.proofs.DestAt.{at_absent, at_land, at_gap, at_edge}
use Rattle.sheet.proofs.grid.Grid.next.Goals as goal

pub returns-then-not-is_arrow : goal.returns-then-not-is_arrow
returns-then-not-is_arrow c =
    let g = c.args.self.now in
    at_absent g.sheet.rows g.sheet.cols g.codes.now c.args.at.row c.args.at.col c.requires g.long (rw c.place.ensures at (sym c.is_arrow.ensures ∙ c.if-not-is_arrow.true))

pub returns-in_err-next : goal.returns-in_err-next
returns-in_err-next c =
    let g = c.args.self.now in
    rw c.from_residual.ensures
    (at_edge g.sheet.rows g.sheet.cols g.codes.now c.args.at.row c.args.at.col c.requires g.long (rw c.place.ensures at (sym c.is_arrow.ensures ∙ c.if-not-is_arrow.false)) (rw c.place.ensures at c.in_err-next.ensures))

pub returns-then-is_arrow : goal.returns-then-is_arrow
returns-then-is_arrow c =
    let g = c.args.self.now in
    at_land g.sheet.rows g.sheet.cols g.codes.now c.args.at.row c.args.at.col c.requires g.long (rw c.place.ensures at (sym c.is_arrow.ensures ∙ c.if-not-is_arrow.false)) c.in_ok-next.next (rw c.place.ensures at c.in_ok-next.ensures) (rw c.place-2.ensures at (sym c.is_arrow-2.ensures ∙ c.if-is_arrow.true))

pub returns-else-is_arrow : goal.returns-else-is_arrow
returns-else-is_arrow c =
    let g = c.args.self.now in
    at_gap g.sheet.rows g.sheet.cols g.codes.now c.args.at.row c.args.at.col c.requires g.long (rw c.place.ensures at (sym c.is_arrow.ensures ∙ c.if-not-is_arrow.false)) c.in_ok-next.next (rw c.place.ensures at c.in_ok-next.ensures) (rw c.place-2.ensures at (sym c.is_arrow-2.ensures ∙ c.if-is_arrow.false))
