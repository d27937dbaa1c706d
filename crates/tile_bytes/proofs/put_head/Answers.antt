-- `tile_bytes::put_head` meets its contract: a byte and a number.
-- Assumes nothing.
use Rattle.writer.proofs.Wrote.{writes_then}
use Rattle.tile_bytes.proofs.put_head.Goals as goal

pub returns : goal.returns
returns c = writes_then c.byte.ensures c.put_two.ensures
