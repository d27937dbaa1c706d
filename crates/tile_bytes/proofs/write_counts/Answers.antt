-- `tile_bytes::write_counts` meets its contract: a field of counts, of which there are few enough for its length.
-- Assumes nothing.
use native.Mathlib.Omega.{arith}
use Rattle.tile.specs.Border.{border_cells}
use Rattle.tile.proofs.Cells.{cells_most}
use Rattle.tile_bytes.specs.Bytes.{each, border_count}
use Rattle.tile_bytes.proofs.Each.{counts_long}
use Rattle.tile_bytes.proofs.Fields.{puts_field}
use Rattle.tile_bytes.proofs.write_counts.Goals as goal

pub overflow_mul-border_cells : goal.overflow_mul-border_cells
overflow_mul-border_cells c = let m = cells_most _ _ c.args.tile.bounds in grind arith

pub returns : goal.returns
returns c =
    let a = c.args in
    puts_field {contents = each (border_cells a.tile.rows a.tile.cols) (λ i. border_count a.tile.rows a.tile.cols a.counts.now i)} (omega (arith, c.border_cells.ensures, counts_long a.tile.rows a.tile.cols a.counts.now (border_cells a.tile.rows a.tile.cols))) c.put_head.ensures c.put_counts.ensures
