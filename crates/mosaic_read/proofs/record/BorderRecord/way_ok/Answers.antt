-- `mosaic_read::record::BorderRecord::way_ok` meets its contract: a way that leads is well formed where its step is off the tile.
-- Assumes nothing.
use mathlib.Core.Path.{sym, ap, ◌∙◌}
use Prim.Native.Nat.{ℕ, ◌+◌, ◌*◌}
use native.Mathlib.Omega.{arith}
use Rattle.mosaic_read.proofs.Ways.{leads_says}
use Rattle.mosaic_read.proofs.record.BorderRecord.way_ok.Goals as goal

pub returns-else-not-is_arrow : goal.returns-else-not-is_arrow
returns-else-not-is_arrow c =
    let spot = c.border_spot-spot.result in
    leads_says c.args.self.now c.args.b c.count-count.ensures (rw (← c.from-to.ensures) at c.in-Over.ensures) c.if-count-eq0.false (omega arith)
    (sym c.way.ensures ∙ c.if-way-number.false ∙ sym c.from-to.ensures) (sym c.code.ensures ∙ c.if-code.false) (sym c.is_arrow.ensures ∙ c.if-not-is_arrow.false)
    c.sheet.ensures.rows c.sheet.ensures.cols (ap (λ (x : ℕ). spot.row * x + spot.col) c.sheet.ensures.cols ∙ c.border_spot-spot.ensures.place_is)
    c.beside.result c.beside.ensures c.is_none.result c.is_none.ensures
