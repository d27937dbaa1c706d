-- `mosaic_join::join_records` meets its contract: the lengths fit, the net is written, what it says is found, and the work buffers are cleared.
-- Assumes nothing.
use mathlib.Core.Path.{◌≡◌, ◌∙◌}
use native.Mathlib.Omega.{arith}
use borrow.Author.Rules.{rules}
use lib.ListN.{length, replicate}
use Rattle.promise.specs.Links.Unless.{met}
use Rattle.mosaic_join.specs.Joining.{works}
use Rattle.mosaic_join.proofs.Answers.{works_cleared, when_cleared}
use Rattle.mosaic_join.proofs.join_records.Goals as goal

pub returns : goal.returns
returns c =
    let m = c.args.mosaic.now in
    let n = c.write_net.ensures.net_written in
    let f = c.settle-found.ensures in
    let e1 : c.fill.new.self ≡ replicate (length c.write_net.new.pours) 0 = search rules in
    let e2 : c.fill-2.new.self ≡ replicate (length c.write_net.new.feeds) 0 = search rules in
    let e3 : c.fill-3.new.self ≡ replicate (length c.settle-found.new.totals) 0 = search rules in
    let e4 : c.fill-4.new.self ≡ replicate (length c.settle-found.new.waiting) 0 = search rules in
    let e5 : c.fill-5.new.self ≡ replicate (length c.write_net.new.table) 0 = search rules in
    met record { incoming_long = omega arith; work1_long = omega arith; work2_long = omega arith; work3_long = omega arith; work4_long = omega arith; work5_long = omega arith }
    (when_cleared m.tile_rows m.tile_cols m.records.now m.well_formed
    ((λ i. works (e1 i) (e2 i) (e3 i) (e4 i) (e5 i)) ∙ works_cleared m.tile_rows m.tile_cols m.records.now m.well_formed n.pours_are.long n.feeds_are.long f.totals_len f.waiting_stays n.table_is.long) f.exits_joined)
