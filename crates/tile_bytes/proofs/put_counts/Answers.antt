-- `tile_bytes::put_counts` meets its contract: one count a turn.
-- Assumes nothing.
use native.Mathlib.Omega.{arith}
use Rattle.tile_bytes.specs.Bytes.{border_count}
use Rattle.tile_bytes.proofs.Each.{counts_long}
use Rattle.tile_bytes.proofs.Fields.{puts_start, puts_more}
use Rattle.writer.proofs.Wrote.{writes_long}
use Rattle.tile_bytes.proofs.put_counts.Goals as goal

pub loop-b-init : goal.loop-b-init
loop-b-init c = puts_start _ _ (omega arith)

pub put_count-requires-clause-room : goal.put_count-requires-clause-room
put_count-requires-clause-room c =
    let m = c.loop-b.invariant in
    let a = c.args in
    omega (arith, counts_long a.tile.rows a.tile.cols a.counts.now c.loop-b.b, writes_long m)

pub loop-b-preserved : goal.loop-b-preserved
loop-b-preserved c =
    let a = c.args in
    puts_more (λ b. border_count a.tile.rows a.tile.cols a.counts.now b) _ c.loop-b.invariant c.put_count.ensures
