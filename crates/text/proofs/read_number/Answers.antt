-- `text::read_number` meets its contract: a number so far, byte by byte, to the byte that ends it or to where the text is stuck.
-- Assumes nothing.
use native.Mathlib.Omega.{arith}
use Prim.Native.Nat.{◌+◌}
use native.Mathlib.Nat.{add_assoc}
use Rattle.std.proofs.lemmas.Bool.Decides.{nat_tests}
use Rattle.text.proofs.Scan.{rest_byte, begun_more, begun_stuck}
use Rattle.text.proofs.read_number.Goals as goal

pub returns-then-not-is_ascii_digit : goal.returns-then-not-is_ascii_digit
returns-then-not-is_ascii_digit c =
    let byte = rest_byte c.args.text.now c.args.at c.loop-i.i c.loop-i-test.true in
    (omega arith, begun_stuck _ _ _ _ c.loop-i.invariant (omega arith) _ c.requires.1 (λ m. grind arith) (λ d room. grind (arith, nat_tests)))

pub loop-i-preserved : goal.loop-i-preserved
loop-i-preserved c =
    let byte = rest_byte c.args.text.now c.args.at c.loop-i.i c.loop-i-test.true in
    rw add_assoc at (begun_more c.args.text.now c.args.at c.loop-i.value (c.args.at + c.loop-i.i) c.loop-i.invariant (omega arith) c.from.result (grind (arith, nat_tests)) (grind (arith, nat_tests)) (grind arith))
