-- The loop of `show::write_line`: the items so far have been written.
use lib.ListN.{take}
use Rattle.writer.specs.Parts.{Writes}
use Rattle.show.specs.Parts.{items}
use Rattle.show.proofs.write_line.Given as goal

abbrev pub invariant-loop-word : goal.invariant-loop-word
invariant-loop-word l = Writes (items (take l.word-index l.list)) l.initial.to l.to
