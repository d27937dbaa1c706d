-- `show::write_refusal` meets its contract: the bytes of its words are those of the definition.
-- Assumes nothing.
use native.Mathlib.Omega.{arith}
use lib.ListN.{get_or, length-append}
use Rattle.writer.proofs.Wrote.{writes_is}
use Rattle.show.specs.Show.{word}
use Rattle.show.proofs.Long.{decimal_20}
use Rattle.show.proofs.Lines.{reason_none, reason_place, reason_loop}
use Rattle.show.proofs.write_refusal.Goals as goal

pub write_line-requires : goal.write_line-requires
write_line-requires c = simp length-append (omega (arith, decimal_20 c.args.n c.ranges.n.fits))

pub write_line-requires-in-len1 : goal.write_line-requires-in-len1
write_line-requires-in-len1 c =
    simp length-append (omega (arith, decimal_20 c.args.n c.ranges.n.fits, decimal_20 (get_or c.args.values.now 0 0) (omega (arith, c.type_inv.values 0))))

pub write_line-requires-in-len2-up : goal.write_line-requires-in-len2-up
write_line-requires-in-len2-up c =
    let values = c.args.values.now in
    simp length-append (omega (
      arith,
      decimal_20 c.args.n c.ranges.n.fits,
      decimal_20 (get_or values 0 0) (omega (arith, c.type_inv.values 0)),
      decimal_20 (get_or values 1 0) (omega (arith, c.type_inv.values 1)),
    ))

pub returns-in-empty : goal.returns-in-empty
unfolding word
returns-in-empty c = writes_is (reason_none c.args.n c.args.values.now c.in-empty.len_below) c.write_line.ensures

pub returns-in-len1 : goal.returns-in-len1
unfolding word
returns-in-len1 c = writes_is (reason_place c.args.n c.args.values.now c.in-len1.len_at_least c.in-len1.len_below) c.write_line-in-len1.ensures

pub returns-in-len2-up : goal.returns-in-len2-up
unfolding word
returns-in-len2-up c = writes_is (reason_loop c.args.n c.args.values.now c.in-len2-up.len_at_least) c.write_line-in-len2-up.ensures
