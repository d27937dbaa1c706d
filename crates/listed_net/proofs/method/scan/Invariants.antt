-- The loop of `listed_net::method::scan`: the scan is at its place.
use Rattle.listed_net.specs.Method.{Scanned}
use Rattle.listed_net.proofs.method.scan.Given as goal

abbrev pub invariant-loop-k : goal.invariant-loop-k
invariant-loop-k l = Scanned l.to l.initial.totals l.initial.waiting l.totals l.waiting l.k
