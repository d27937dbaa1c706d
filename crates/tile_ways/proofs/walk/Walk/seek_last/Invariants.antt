-- The loop of `tile_ways::walk::Walk::seek_last`: what it keeps, and what falls.
use mathlib.Core.Path.{◌≡◌}
use Rattle.sheet.specs.Grid.{OnGrid, place_in}
use Rattle.tile_ways.specs.Ways.{last_in}
use Rattle.tile_ways.proofs.Last.{to_go_in}
use Rattle.tile_ways.proofs.walk.Walk.seek_last.Given as goal

abbrev pub invariant-loop-last : goal.invariant-loop-last
invariant-loop-last l =
    OnGrid l.self.free.now.grid l.at × (last_in l.self.free.now.grid (place_in l.self.free.now.grid l.at) ≡ last_in l.self.free.now.grid (place_in l.self.free.now.grid l.fn.from))

abbrev pub decreases-loop-last : goal.decreases-loop-last
decreases-loop-last l = to_go_in l.self.free.now.grid (place_in l.self.free.now.grid l.at)
