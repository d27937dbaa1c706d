-- `mosaic_step::line::piece_after` meets its contract: a law for each way through it.
-- Assumes nothing.
use mathlib.Core.Path.{sym}
use native.Mathlib.Omega.{arith}
use Rattle.mosaic_step.proofs.Moves.{after_less, after_on, after_within}
use Rattle.mosaic_step.proofs.line.piece_after.Goals as goal

pub returns-then-x-eq0 : goal.returns-then-x-eq0
returns-then-x-eq0 c = let a = c.args in after_less a.pieces a.i a.long a.x c.if-x-eq0.true c.requires c.checked_sub.result c.checked_sub.ensures

pub returns-then-x-long : goal.returns-then-x-long
returns-then-x-long c = let a = c.args in (sym (after_within a.pieces a.i a.long a.x c.if-x-eq0.false c.if-x-long.true), c.requires)

pub returns-then-i-pieces : goal.returns-then-i-pieces
returns-then-i-pieces c = let a = c.args in (sym (after_on a.pieces a.i a.long a.x c.if-x-eq0.false c.if-x-long.false), c.if-i-pieces.true)

pub returns-else-i-pieces : goal.returns-else-i-pieces
returns-else-i-pieces c = let a = c.args in omega (arith, after_on a.pieces a.i a.long a.x c.if-x-eq0.false c.if-x-long.false)
