-- `listed_net::count_net` meets its contract: the end of the scan says what is left, and whether anything is.
-- Assumes nothing.
use mathlib.Core.Path.{sym}
use Rattle.std.proofs.Common.{arith, rules, length}
use Rattle.listed_net.specs.Net.{to_at}
use Rattle.listed_net.proofs.Whole.{givers_given, half_start, weighed_start, whole_done, whole_on_loop, whole_loop}
use Rattle.listed_net.proofs.count_net.Goals as goal

pub gather-requires-clause-fit : goal.gather-requires-clause-fit
gather-requires-clause-fit c =
    (λ q. 1, λ q x l e. search rules, λ p l. omega (arith, givers_given (length c.args.to.now) (to_at c.args.to.now) p, c.requires.cells_most))

pub scan-requires : goal.scan-requires
scan-requires c =
    let givers = c.gather.ensures (λ q. 1) (λ q x l e. search rules) in
    half_start c.args.to.now c.args.totals.now _ c.requires.cells_most givers c.requires.weights_long c.requires.weights_fit

pub loop_length-length-requires-clause-on_loop : goal.loop_length-length-requires-clause-on_loop
loop_length-length-requires-clause-on_loop c = whole_on_loop c.scan.ensures c.in-Some.ensures

pub returns-in-Some : goal.returns-in-Some
returns-in-Some c =
    record {
      totals_long = c.scan.ensures.half.totals_long;
      waiting_long = c.scan.ensures.half.waiting_long;
      answers = whole_loop c.scan.ensures c.in-Some.ensures (sym c.loop_length-length.ensures);
    }

pub returns-in-None : goal.returns-in-None
returns-in-None c =
    let givers = c.gather.ensures (λ q. 1) (λ q x l e. search rules) in
    record {
      totals_long = c.scan.ensures.half.totals_long;
      waiting_long = c.scan.ensures.half.waiting_long;
      answers = whole_done c.scan.ensures (weighed_start c.args.to.now c.args.totals.now _ c.requires.cells_most givers) c.in-None.ensures;
    }
