-- `listed_net::arrows::gather` meets its contract: each turn adds what one cell holds.
-- Assumes nothing.
use Rattle.std.proofs.Common.{arith}
use Rattle.listed_net.proofs.Sums.{gathered_none, gathered_out, gathered_fits, gathered_more}
use Rattle.listed_net.proofs.arrows.gather.Goals as goal
use Rattle.listed_net.proofs.arrows.gather.Goals.{in-Some, in_default}

pub loop-q-init : goal.loop-q-init
loop-q-init g c = λ held tells. gathered_none c.requires.sums_clear

pub overflow_add-sums : goal.overflow_add-sums
overflow_add-sums g c =
    let (held, tells, fit) = c.requires.fit in
    omega (arith, gathered_fits (c.loop-q.invariant held tells) c.in-Some.ensures (tells _ _ c.loop-q-test.true c.held_by.ensures) fit c.loop-q-test.true)

pub loop-q-preserved : goal.loop-q-preserved
loop-q-preserved g c = λ held tells. elim c.match-arrow.branch [
  | in-Some w ↦ rw w.sums-is (gathered_more (c.loop-q.invariant held tells) w.in-Some.ensures (tells _ _ c.loop-q-test.true w.held_by.ensures))
  | in_default w ↦ rw w.sums-is (gathered_out (c.loop-q.invariant held tells) w.in_default.ensures)
]
