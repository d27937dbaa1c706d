-- `tile_ways::walk::Walk::seek_last` meets its contract: each step keeps the last cell of the path.
-- Assumes nothing.
use mathlib.Core.Path.{sym, ◌∙◌}
use native.Mathlib.Omega.{arith}
use Rattle.tile_ways.proofs.Last.{last_here, next_cell, next_last, next_less}
use Rattle.tile_ways.proofs.walk.Walk.seek_last.Goals as goal

pub returns-in_default-next : goal.returns-in_default-next
returns-in_default-next c =
    let g = c.args.self.now.free.now in
    let none = c.in_default-next.ensures in
    c.place-p.ensures ∙ sym (last_here g.grid.sheet.rows g.grid.sheet.cols g.grid.codes.now g.free _ (omega arith)) ∙ c.loop-last.invariant.1

pub loop-last-smaller : goal.loop-last-smaller
loop-last-smaller c =
    next_less c.args.self.now.free.now.grid c.args.self.now.free.now.free _ _ c.loop-last.invariant.0 c.in-Some-next.ensures

pub loop-last-preserved : goal.loop-last-preserved
loop-last-preserved c =
    let g = c.args.self.now.free.now in
    (next_cell g.grid g.free _ _ c.loop-last.invariant.0 c.in-Some-next.ensures, next_last g.grid g.free _ _ c.loop-last.invariant.0 c.in-Some-next.ensures ∙ c.loop-last.invariant.1)
