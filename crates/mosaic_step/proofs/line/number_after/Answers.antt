-- `mosaic_step::line::number_after` meets its contract: a law for each way through it.
-- Assumes nothing.
use native.Mathlib.Omega.{arith}
use Rattle.mosaic_step.proofs.Moves.{number_back, number_on, number_within}
use Rattle.mosaic_step.proofs.line.number_after.Goals as goal

pub returns-then-j-i : goal.returns-then-j-i
returns-then-j-i c = let a = c.args in omega (arith, number_back a.i a.x a.j a.there c.if-j-i.true)

pub returns-then-i-j : goal.returns-then-i-j
returns-then-i-j c = let a = c.args in omega (arith, number_on a.i a.x a.j a.there c.if-i-j.true)

pub returns : goal.returns
returns c =
    let a = c.args in
    omega (arith, number_within a.i a.x a.j a.there (omega (arith, c.if-j-i.false, c.if-i-j.false)))
