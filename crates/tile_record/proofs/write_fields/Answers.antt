-- `tile_record::write_fields` meets its contract: three fields, one behind the other.
-- Assumes nothing.
use mathlib.Core.Path.{◌≡◌, ap, ◌∙◌}
use native.Mathlib.Omega.{arith}
use lib.ListN.{length}
use Rattle.tile.specs.Border.{border_cells}
use Rattle.tile_bytes.specs.Bytes.{field, each, sides, border_count, record_bytes}
use Rattle.tile_bytes.proofs.Each.{counts_long}
use Rattle.writer.specs.Parts.{Writes}
use Rattle.writer.specs.declared.Writer.{Writer}
use Rattle.writer.proofs.Wrote.{writes_long}
use Rattle.tile_record.proofs.Whole.{whole}
use Rattle.tile_record.proofs.write_fields.Goals as goal

pub write_ways-requires-clause-room : goal.write_ways-requires-clause-room
write_ways-requires-clause-room c =
    let g = c.args.free.now.grid in
    let start = ap (λ (w : Writer). w.at) c.new-to.ensures in
    let long = ap (λ (w : Writer). length w.out.now) c.new-to.ensures in
    let first = c.write_sides.ensures in
    let second : Writes (field 2 (each (border_cells g.sheet.rows g.sheet.cols) (λ b. border_count g.sheet.rows g.sheet.cols c.args.counts.now b))) c.write_sides.new.to c.write_counts.new.to =
    rw (c.as_tile-tile.ensures.rows, c.as_tile-tile.ensures.cols) at c.write_counts.ensures in
    omega (arith, writes_long first, first.wrote.next_is, writes_long second, second.wrote.next_is, counts_long g.sheet.rows g.sheet.cols c.args.counts.now (border_cells g.sheet.rows g.sheet.cols))

pub returns : goal.returns
returns c =
    let g = c.args.free.now.grid in
    let p = c.args.position in
    let first : Writes (field 1 (sides g.sheet.rows g.sheet.cols p.row p.col)) c.new-to.result c.write_sides.new.to =
    rw (c.as_tile-tile.ensures.rows, c.as_tile-tile.ensures.cols) at c.write_sides.ensures in
    let second : Writes (field 2 (each (border_cells g.sheet.rows g.sheet.cols) (λ b. border_count g.sheet.rows g.sheet.cols c.args.counts.now b))) c.write_sides.new.to c.write_counts.new.to =
    rw (c.as_tile-tile.ensures.rows, c.as_tile-tile.ensures.cols) at c.write_counts.ensures in
    let bytes : c.write_ways.new.to.out.now ≡ record_bytes g.sheet.rows g.sheet.cols p.row p.col g.codes.now c.args.counts.now =
    whole g.sheet.rows g.sheet.cols p.row p.col g.codes.now c.args.counts.now first second c.write_ways.ensures (ap (λ (w : Writer). w.at) c.new-to.ensures) (ap (λ (w : Writer). length w.out.now) c.new-to.ensures ∙ c.requires.bytes_long) in
    let same = c.write_ways.ensures.same_buffer ∙ second.same_buffer ∙ first.same_buffer ∙ ap (λ (w : Writer). w.out.ghost_name) c.new-to.ensures in
    grind arith
