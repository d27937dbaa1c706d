-- The loop of `tile_finish::incoming::Incoming::spread`: what it keeps.
use Rattle.tile_finish.specs.Method.{Spread}
use Rattle.tile_finish.proofs.incoming.Incoming.spread.Given as goal

abbrev pub invariant-loop-b : goal.invariant-loop-b
invariant-loop-b l = Spread l.self.grid.sheet.rows l.self.grid.sheet.cols l.self.numbers.now l.work l.b
