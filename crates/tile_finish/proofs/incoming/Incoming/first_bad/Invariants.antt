-- The loop of `tile_finish::incoming::Incoming::first_bad`: what it keeps.
use Prim.Native.Nat.{ℕ, ◌<◌}
use Rattle.tile_finish.specs.Finish.{IncomingOk}
use Rattle.tile_finish.proofs.incoming.Incoming.first_bad.Given as goal

abbrev pub invariant-loop-b : goal.invariant-loop-b
invariant-loop-b l = (q : ℕ) → q < l.b → IncomingOk l.self.grid.sheet.rows l.self.grid.sheet.cols l.self.grid.codes.now l.self.numbers.now q
