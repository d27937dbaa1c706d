-- The loop of `tile_bytes::put_counts`: what it keeps.
use Rattle.tile_bytes.specs.Bytes.{each, border_count}
use Rattle.writer.specs.Parts.{Writes}
use Rattle.tile_bytes.proofs.put_counts.Given as goal

abbrev pub invariant-loop-b : goal.invariant-loop-b
invariant-loop-b l = Writes (each l.b (λ i. border_count l.fn.tile.rows l.fn.tile.cols l.counts i)) l.initial.to l.to
