-- The loop of `tile_ways::walk::Walk::mark_path`: what it keeps, and what falls.
use mathlib.Core.Path.{◌≡◌}
use Rattle.flow.proofs.LookStep.{zeros}
use Rattle.sheet.specs.Grid.{OnGrid, cells_in, place_in}
use Rattle.sheet.specs.Sheet.{count_at}
use Rattle.tile_ways.specs.Ways.{last_in}
use Rattle.tile_ways.proofs.walk.Walk.mark_path.Given as goal

abbrev pub invariant-loop-self : goal.invariant-loop-self
invariant-loop-self l = record {
  stays : l.self.free ≡ l.initial.self.free;
  on_grid : OnGrid l.self.free.now.grid l.at;
  last_is : l.last ≡ last_in l.self.free.now.grid (place_in l.self.free.now.grid l.at);
}

abbrev pub decreases-loop-self : goal.decreases-loop-self
decreases-loop-self l = zeros (cells_in l.self.free.now.grid) (count_at l.self.known.now)
