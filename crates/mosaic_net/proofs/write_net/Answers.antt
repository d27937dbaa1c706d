-- `mosaic_net::write_net` meets its contract: the table, where border cells lead, what exits pour onto, what they feed.
-- Assumes nothing.
use native.Mathlib.Omega.{arith}
use Rattle.mosaic_net.proofs.Fed.{feeds_written}
use Rattle.mosaic_net.proofs.Told.{borders_most}
use Rattle.mosaic_net.proofs.write_net.Goals as goal

pub fill_feeds-requires-clause-leads_len : goal.fill_feeds-requires-clause-leads_len
fill_feeds-requires-clause-leads_len c =
    let l = c.fill.ensures.long in
    let p = c.fill-2.ensures.long in
    (omega arith, omega (arith, borders_most _ _ _ c.args.mosaic.now.well_formed))

pub returns-clause-net_written : goal.returns-clause-net_written
returns-clause-net_written c =
    let m = c.args.mosaic.now in
    record {
      pours_are = c.fill-2.ensures;
      feeds_are = feeds_written m.tile_rows m.tile_cols m.records.now _ _ c.fill.ensures c.fill-2.ensures _ c.fill_feeds.ensures;
      own_are = c.fill-3.ensures;
      table_is = c.fill_table.ensures;
    }
