-- `show::write_grid` meets its contract: the numbers shown so far, each with the byte after it.
-- Assumes nothing.
use mathlib.Core.Path.{◌≡◌, sym, ap, ◌∙◌}
use Prim.Native.Nat.{◌+◌, ◌-◌}
use native.Mathlib.Omega.{arith}
use Rattle.std.proofs.lemmas.Nat.{mul-add-lt}
use Rattle.text.specs.Read.{end_of}
use Rattle.text.proofs.Flat.{rights, rights_first, rights_in, rights_end, rights_next, flat_rows}
use Rattle.writer.proofs.Wrote.{writes_long, writes_is}
use Rattle.show.proofs.Shown.{shown_at, shown_room, shown_next, shown_all, grid_room}
use Rattle.show.proofs.write_grid.Goals as goal

pub loop-col-init : goal.loop-col-init
loop-col-init c = shown_at (sym (rights_first _)) (omega arith) c.loop-row.invariant

pub write_number-requires : goal.write_number-requires
write_number-requires c =
    let inside = mul-add-lt c.loop-row.row c.args.cols c.loop-col.col c.args.rows (omega arith) (omega arith) in
    let room = shown_room c.loop-col.invariant (omega arith) (grid_room _ _ _ c.args.to.now c.requires.some_cols c.requires.grid c.requires.room) in
    omega arith

pub byte-requires : goal.byte-requires
byte-requires c =
    let inside = mul-add-lt c.loop-row.row c.args.cols c.loop-col.col c.args.rows (omega arith) (omega arith) in
    let room = shown_room c.loop-col.invariant (omega arith) (grid_room _ _ _ c.args.to.now c.requires.some_cols c.requires.grid c.requires.room) in
    let w = c.write_number.ensures in
    omega (arith, writes_long w, w.wrote.next_is)

pub loop-col-preserved : goal.loop-col-preserved
loop-col-preserved c =
    let inside = mul-add-lt c.loop-row.row c.args.cols c.loop-col.col c.args.rows (omega arith) (omega arith) in
    let end = c.end_of.ensures ∙ ap end_of (sym (rights_in (c.args.cols - 1) c.loop-col.col (omega arith))) in
    shown_at (rights_next _ _ (omega arith)) (omega arith) (shown_next c.loop-col.invariant (omega arith) c.write_number.ensures (rw end at c.byte.ensures))

pub loop-row-preserved : goal.loop-row-preserved
loop-row-preserved c =
    let last : c.loop-col.col ≡ c.args.cols - 1 + 1 = omega arith in
    shown_at (ap (rights (c.args.cols - 1)) last ∙ rights_end _) (omega arith) c.loop-col.invariant

pub returns : goal.returns
returns c = writes_is (flat_rows _ _ _ c.requires.some_cols c.requires.grid) (shown_all c.loop-row.invariant (grind arith))
