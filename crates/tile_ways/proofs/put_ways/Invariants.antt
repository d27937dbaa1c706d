-- The loop of `tile_ways::put_ways`: what it keeps.
use mathlib.Core.Path.{◌≡◌}
use Rattle.tile_bytes.specs.Bytes.{each, way_bytes}
use Rattle.writer.specs.Parts.{Writes}
use Rattle.tile_ways.specs.Ways.{border_way_in}
use Rattle.tile_ways.proofs.put_ways.Given as goal

abbrev pub invariant-loop-b : goal.invariant-loop-b
invariant-loop-b l = record {
  stays : l.walk.free ≡ l.fn.walk.free;
  puts : Writes (each l.b (λ i. way_bytes (border_way_in l.fn.walk.free.now.grid i))) l.initial.to l.to;
}
