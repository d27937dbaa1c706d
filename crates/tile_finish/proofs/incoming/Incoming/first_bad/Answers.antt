-- `tile_finish::incoming::Incoming::first_bad` meets its contract: at no border cell passed comes in more than can be taken.
-- Assumes nothing.
use mathlib.Core.Bool.{true≢false}
use mathlib.Core.Path.{sym, ◌∙◌}
use native.Mathlib.Omega.{arith}
use borrow.Author.Count.{below_more}
use Rattle.tile_finish.proofs.Coming.{may_ok, ok_may}
use Rattle.tile_finish.proofs.incoming.Incoming.first_bad.Goals as goal

pub returns-then-not-may_come_in : goal.returns-then-not-may_come_in
returns-then-not-may_come_in c =
    let i = c.args.self.now in
    let at = rw (c.as_tile-tile.ensures.rows, c.as_tile-tile.ensures.cols) at c.border_place.ensures.value in
    let inside = rw (c.as_tile-tile.ensures.rows, c.as_tile-tile.ensures.cols) at c.border_place.ensures.inside in
    record {
      inside = omega (arith, i.numbers_long);
      here = λ ok. true≢false (sym (ok_may i.grid.sheet.rows i.grid.sheet.cols i.grid.codes.now i.numbers.now c.loop-b.b at (omega (arith, i.grid.long)) ok) ∙ sym c.may_come_in.ensures ∙ c.if-not-may_come_in.true);
      before = c.loop-b.invariant;
    }

pub loop-b-preserved : goal.loop-b-preserved
loop-b-preserved c =
    let i = c.args.self.now in
    let at = rw (c.as_tile-tile.ensures.rows, c.as_tile-tile.ensures.cols) at c.border_place.ensures.value in
    let inside = rw (c.as_tile-tile.ensures.rows, c.as_tile-tile.ensures.cols) at c.border_place.ensures.inside in
    below_more _ _ c.loop-b.invariant
    (may_ok i.grid.sheet.rows i.grid.sheet.cols i.grid.codes.now i.numbers.now c.loop-b.b at (omega (arith, i.grid.long)) (sym c.may_come_in.ensures ∙ c.if-not-may_come_in.false))
