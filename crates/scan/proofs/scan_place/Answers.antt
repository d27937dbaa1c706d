-- `scan::scan_place` meets its contract: a law for each way through it.
-- Assumes nothing.
use mathlib.Core.Path.{sym, ◌∙◌}
use Prim.Native.Nat.{◌+◌, ◌*◌}
use Rattle.scan.proofs.Scanning.{pass_absent, pass_given, none_given, pass_walked}
use Rattle.scan.proofs.Step.{moved_on}
use Rattle.scan.proofs.scan_place.Goals as goal

pub returns-then-not-is_land-clause-counting_after : goal.returns-then-not-is_land-clause-counting_after
returns-then-not-is_land-clause-counting_after c =
    let d = c.args.grid.now in
    pass_absent d.sheet.rows d.sheet.cols d.codes.now c.args.more.now c.args.counts.now (c.args.at.row * d.sheet.cols + c.args.at.col) c.requires.counting (rw c.place-p.ensures at (sym c.is_land.ensures ∙ c.if-not-is_land.true))

pub returns-then-giver_number-ne0-clause-counting_after : goal.returns-then-giver_number-ne0-clause-counting_after
returns-then-giver_number-ne0-clause-counting_after c =
    let d = c.args.grid.now in
    pass_given d.sheet.rows d.sheet.cols d.codes.now c.args.more.now c.args.counts.now (c.args.at.row * d.sheet.cols + c.args.at.col) c.requires.counting c.giver_number.ensures c.if-giver_number-ne0.true

pub settle-next-requires-clause-to_count : goal.settle-next-requires-clause-to_count
settle-next-requires-clause-to_count c = λ l. (rw c.place-p.ensures at (sym c.is_land.ensures ∙ c.if-not-is_land.false), rw c.place-p.ensures at c.if-counts-p-ne0.false)

pub settle-next-requires-clause-looks_around : goal.settle-next-requires-clause-looks_around
settle-next-requires-clause-looks_around c =
    let d = c.args.grid.now in
    none_given d.sheet.rows d.sheet.cols d.codes.now c.args.more.now c.args.counts.now (c.args.at.row * d.sheet.cols + c.args.at.col) c.requires.counting c.giver_number.ensures c.if-giver_number-ne0.false

pub returns-clause-counting_after : goal.returns-clause-counting_after
returns-clause-counting_after c =
    let d = c.args.grid.now in
    pass_walked d.sheet.rows d.sheet.cols d.codes.now c.args.more.now c.args.counts.now (c.args.at.row * d.sheet.cols + c.args.at.col) c.requires.counting c.walk.ensures.over (moved_on d.sheet.rows d.sheet.cols d.codes.now c.args.more.now c.args.counts.now _ _ _ _ _ c.settle-next.ensures.moved c.walk.ensures.moved)
