-- The loops of `mosaic_net::pours::fill_feeds`: what they keep.
use lib.ListN.{length}
use Rattle.mosaic_net.specs.Method.{Filled, feed_at}
use Rattle.mosaic_net.proofs.pours.fill_feeds.Given as goal

abbrev pub invariant-loop-g : goal.invariant-loop-g
invariant-loop-g l = Filled (length l.pours) (feed_at l.leads l.pours) l.feeds l.g
