-- `listed_net::method::hand_on` meets its contract: a law of the step for each way through it.
-- Assumes nothing.
use Rattle.std.proofs.Common.{arith}
use Rattle.listed_net.proofs.Move.{moved_out, moved_out_less, next_some, next_fits, moved_in, moved_less}
use Rattle.listed_net.proofs.method.hand_on.Goals as goal

pub returns-in_err-t-clause-moved : goal.returns-in_err-t-clause-moved
returns-in_err-t-clause-moved c = rw c.from_residual.ensures (moved_out c.requires.half c.args.p c.requires.ready c.in_err-t.ensures)

pub returns-in_err-t-clause-fewer_left : goal.returns-in_err-t-clause-fewer_left
returns-in_err-t-clause-fewer_left c = moved_out_less c.requires.half c.args.p c.requires.ready c.in_err-t.ensures

pub overflow_add-totals : goal.overflow_add-totals
overflow_add-totals c = omega (arith, next_fits c.requires.half c.args.p c.requires.ready c.in_ok-t.t c.in_ok-t.ensures)

pub overflow_sub-waiting : goal.overflow_sub-waiting
overflow_sub-waiting c = next_some c.requires.half c.args.p c.requires.ready c.in_ok-t.t c.in_ok-t.ensures

pub returns-clause-moved : goal.returns-clause-moved
returns-clause-moved c = rw c.then_some.ensures (moved_in c.requires.half c.args.p c.requires.ready c.in_ok-t.t c.in_ok-t.ensures)

pub returns-clause-fewer_left : goal.returns-clause-fewer_left
returns-clause-fewer_left c = moved_less c.requires.half c.args.p c.requires.ready c.in_ok-t.t c.in_ok-t.ensures
