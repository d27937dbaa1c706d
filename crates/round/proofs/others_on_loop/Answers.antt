-- `round::others_on_loop` meets its contract: the walk is on its way round until it is back.
-- Assumes nothing.
use Rattle.std.proofs.Common.{◌≡◌, None, arith, rules}
use Rattle.round.proofs.Way.{way_start, way_inside, way_short, way_next, way_on, way_round}
use Rattle.round.proofs.others_on_loop.Goals as goal

pub loop-next-init : goal.loop-next-init
loop-next-init g c = way_start (g.met.N.Net.out c.args.net.now) c.requires

pub next-requires : goal.next-requires
next-requires g c = way_inside c.loop-next.invariant

pub overflow_add-others : goal.overflow_add-others
overflow_add-others g c = omega (arith, way_short c.loop-next.invariant, g.met.N.Net.few c.args.net.now)

pub loop-next-smaller : goal.loop-next-smaller
loop-next-smaller g c = omega (arith, way_short c.loop-next.invariant)

pub loop-next-preserved : goal.loop-next-preserved
loop-next-preserved g c = way_on c.loop-next.invariant c.in-Some.ensures.1 c.if-next-start.true

pub returns-in-loop-next : goal.returns-in-loop-next
returns-in-loop-next g c =
    let none : c.next.result ≡ None = search rules in
    let nowhere = rw none at c.next.ensures in
    absurd (nowhere (way_next c.loop-next.invariant))

pub returns-else-next-start : goal.returns-else-next-start
returns-else-next-start g c =
    record {
      one_more = way_round c.loop-next.invariant c.in-Some.ensures.1 c.if-next-start.false;
      inside = way_short c.loop-next.invariant;
    }
