-- `tile_bytes::write_sides` meets its contract: a field of four numbers.
-- Assumes nothing.
use mathlib.Core.Path.{refl}
use Rattle.tile_bytes.proofs.Fields.{puts_field}
use Rattle.writer.proofs.Wrote.{writes_then}
use Rattle.tile_bytes.proofs.write_sides.Goals as goal

pub returns : goal.returns
returns c =
    puts_field refl c.put_head.ensures (writes_then c.put_two.ensures (writes_then c.put_two-2.ensures (writes_then c.put_two-3.ensures c.put_two-4.ensures)))
