-- `show::write_line` meets its contract: the items so far, and a newline behind them.
-- Assumes nothing.
use mathlib.Core.Path.{sym}
use native.Mathlib.Omega.{arith}
use lib.Seq.{take_all}
use Rattle.writer.proofs.Wrote.{writes_long, writes_then, writes_is}
use Rattle.show.proofs.Items.{items_more, word_room, number_room}
use Rattle.show.proofs.write_line.Goals as goal

pub bytes-requires : goal.bytes-requires
bytes-requires c = word_room _ _ _ c.loop-word-test.true c.loop-word.invariant c.requires

pub write_number-requires : goal.write_number-requires
write_number-requires c = number_room _ _ _ c.loop-word-test.true c.loop-word.invariant c.requires c.bytes.ensures

pub loop-word-preserved : goal.loop-word-preserved
loop-word-preserved c =
    writes_is (sym (items_more _ _ _ c.loop-word-test.true)) (writes_then c.loop-word.invariant (writes_then c.bytes.ensures c.write_number.ensures))

pub byte-requires : goal.byte-requires
byte-requires c =
    let w = rw (take_all c.loop-word.word-index c.args.list.now c.loop-word-test.false) at c.loop-word.invariant in
    omega (arith, writes_long w, w.wrote.next_is)

pub returns : goal.returns
returns c =
    let w = rw (take_all c.loop-word.word-index c.args.list.now c.loop-word-test.false) at c.loop-word.invariant in
    writes_then w c.byte.ensures
