-- `tile_ways::walk::Walk::mark_path` meets its contract: each turn one more last cell is known.
-- Assumes nothing.
use mathlib.Core.Path.{sym, ◌∙◌}
use native.Mathlib.Omega.{arith}
use Prim.Native.Nat.{◌+◌}
use Rattle.sheet.specs.Grid.{cells_in}
use Rattle.sheet.proofs.Spots.{cell_below}
use Rattle.tile_ways.proofs.Last.{last_fits, next_cell, next_last, known_less}
use Rattle.tile_ways.proofs.walk.Walk.mark_path.Goals as goal

pub overflow_add-self : goal.overflow_add-self
overflow_add-self c =
    let g = c.args.self.now.free.now in
    omega (arith, last_fits g.grid g.free c.args.from c.requires.on_grid)

pub overflow_cast-self : goal.overflow_cast-self
overflow_cast-self c =
    let g = c.args.self.now.free.now in
    omega (arith, last_fits g.grid g.free c.args.from c.requires.on_grid)

pub loop-self-smaller : goal.loop-self-smaller
loop-self-smaller c =
    let there = cell_below c.loop-self.invariant.on_grid in
    known_less (cells_in c.loop-self.self.free.now.grid) c.loop-self.self.known.now c.place-p.result (c.args.last + 1) (omega (arith, c.place-p.ensures)) (omega (arith, c.place-p.ensures, c.loop-self.self.right.long)) c.if-self-p-ne0.false (λ e. omega arith)

pub loop-self-preserved : goal.loop-self-preserved
loop-self-preserved c =
    let m = c.loop-self.invariant in
    let g = c.loop-self.self.free.now in
    record {
      stays = m.stays;
      on_grid = next_cell g.grid g.free _ _ m.on_grid c.in-Some.ensures;
      last_is = m.last_is ∙ sym (next_last g.grid g.free _ _ m.on_grid c.in-Some.ensures);
    }
