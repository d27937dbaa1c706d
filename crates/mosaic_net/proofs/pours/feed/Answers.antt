-- `mosaic_net::pours::feed` meets its contract: the cell pours onto none, or onto one that leads on.
-- Assumes nothing.
use Rattle.mosaic_net.proofs.Fed.{feed_none, feed_lead}
use Rattle.mosaic_net.proofs.pours.feed.Goals as goal

pub returns-then-all-h : goal.returns-then-all-h
returns-then-all-h c = let a = c.args in feed_none a.leads.now a.pours.now a.g c.if-all-h.true

pub returns : goal.returns
returns c = let a = c.args in feed_lead a.leads.now a.pours.now a.g c.if-all-h.false
