-- `sheet::step::moved` meets its contract: its sum is `pos (x + lift d)`, which is not negative.
-- Assumes nothing.
use Prim.Native.Nat.{◌+◌}
use native.Mathlib.Omega.{arith}
use Rattle.sheet.specs.Leaves.{lift}
use mir.Syntax.{w32}
use mir.Facts.{to_z_pos}
use Rattle.sheet.proofs.Signed.{sum_is, lift_small}
use Rattle.sheet.proofs.step.moved.Goals as goal

pub overflow_add-result : goal.overflow_add-result
overflow_add-result c = rw (to_z_pos w32 {n = c.args.x} (omega arith)) record { sfits = omega arith }

pub overflow_add-result-2 : goal.overflow_add-result-2
overflow_add-result-2 c =
    rw (sum_is c.args.x c.args.d c.requires.0 c.requires.1)
    record { sfits = omega (arith, lift_small c.args.d c.requires.1) }

pub overflow_cast-result-2 : goal.overflow_cast-result-2
overflow_cast-result-2 c =
    let l = lift_small c.args.d c.requires.1 in
    rw (sum_is c.args.x c.args.d c.requires.0 c.requires.1, to_z_pos w32 {n = c.args.x + lift c.args.d} (omega arith))
    (tt, omega arith)

pub returns : goal.returns
returns c =
    let l = lift_small c.args.d c.requires.1 in
    rw (sum_is c.args.x c.args.d c.requires.0 c.requires.1, to_z_pos w32 {n = c.args.x + lift c.args.d} (omega arith))
