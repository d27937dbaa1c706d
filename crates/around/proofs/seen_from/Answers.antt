-- `around::seen_from` meets its contract: beyond the sheet no arrow is found.
-- Assumes nothing.
use native.Mathlib.Omega.{arith}
use Rattle.around.proofs.Weigh.{adds_beyond}
use Rattle.around.proofs.seen_from.Goals as goal

pub returns-in-None-clause-value : goal.returns-in-None-clause-value
returns-in-None-clause-value g c =
    adds_beyond c.args.grid.now.codes.now (g.W.Weight.weight c.args.weight.now) _ c.args.code (omega (arith, c.in-None.ensures, c.args.grid.now.long)) c.requires.both_arrows.1
