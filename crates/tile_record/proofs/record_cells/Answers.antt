-- `tile_record::record_cells` meets its contract: a bad code, or a land cell is left without a count, or none.
-- Assumes nothing.
use mathlib.Core.Path.{◌≡◌, refl}
use native.Mathlib.Omega.{arith}
use borrow.Author.Rules.{rules}
use Rattle.loops.proofs.First.{left_on_loop}
use Rattle.promise.specs.Links.UnlessAll.{refused_at, met_all}
use Rattle.sheet.proofs.Places.{laid_of}
use Rattle.scan.proofs.Scanning.{plain_fits}
use Rattle.tile_record.specs.Record.{cleared}
use Rattle.tile_record.proofs.Answers.{answers_loop, free_tile, answers_done}
use Rattle.tile_record.proofs.record_cells.Goals as goal
use Rattle.tile_record.proofs.record_cells.Goals.{in-Some-first_left, in-None}

pub returns-in-Some : goal.returns-in-Some
returns-in-Some c = refused_at _ (rw c.args.grid.now.long at (rw c.in-Some.is at c.first_bad_code.ensures)) refl

pub scan-requires-clause-weights_fit : goal.scan-requires-clause-weights_fit
scan-requires-clause-weights_fit c = let g = c.args.grid.now in plain_fits (laid_of c.requires.small (omega arith) g.long g.long)

pub loop_length-requires : goal.loop_length-requires
loop_length-requires c =
    let g = c.args.grid.now in
    left_on_loop g.sheet.rows g.sheet.cols g.codes.now _ _ g.long c.scan.ensures.counting (rw c.in-Some-first_left.is at c.first_left.ensures)

pub invariant_of-write_fields : goal.invariant_of-write_fields
invariant_of-write_fields c =
    let g = c.args.grid.now in
    record { free = free_tile g.sheet.rows g.sheet.cols c.args.position.row c.args.position.col g.codes.now _ g.long c.scan.ensures.counting (rw c.in-None.is at c.first_left.ensures) c.requires.small }

pub returns : goal.returns
returns c =
    let g = c.args.grid.now in
    let p = c.args.position in
    let one : c.fill.new.self ≡ cleared g.sheet.rows g.sheet.cols = search rules in
    let two : c.fill-2.new.self ≡ cleared g.sheet.rows g.sheet.cols = search rules in
    met_all (rw g.long at (rw c.in_default.is at c.first_bad_code.ensures)) (elim c.match-first_left.branch [
      | in-Some-first_left w ↦ rw (w.outcome-is, w.bytes-is) (answers_loop g.sheet.rows g.sheet.cols p.row p.col g.codes.now _ g.long c.scan.ensures.counting (rw w.in-Some-first_left.is at c.first_left.ensures) w.loop_length.ensures one two)
      | in-None w ↦ rw (w.outcome-is, w.bytes-is) (answers_done g.sheet.rows g.sheet.cols p.row p.col g.codes.now _ g.long c.scan.ensures.counting (rw w.in-None.is at c.first_left.ensures) w.write_fields.ensures one two)
    ])
