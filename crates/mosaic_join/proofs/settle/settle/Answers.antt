-- `mosaic_join::settle::settle` meets its contract: exits feed each other round, or what comes in is gathered.
-- Assumes nothing.
use mathlib.Core.Path.{refl}
use borrow.Author.Rules.{rules}
use Rattle.sheet.specs.Sheet.{count_at}
use Rattle.mosaic_join.proofs.Answers.{net_lent, loop_is, gathers_fit, answers_loop, answers_done}
use Rattle.mosaic_join.proofs.TileFound.{tile_there, first_le, number_left}
use Rattle.mosaic_join.proofs.settle.settle.Goals as goal

pub count_net-requires : goal.count_net-requires
count_net-requires c =
    let m = c.args.mosaic.now in
    let n = c.requires.net_written in
    net_lent m.tile_rows m.tile_cols m.records.now m.well_formed c.args.feeds.now c.args.totals.now n.feeds_are n.own_are c.args.waiting.now c.requires.waiting_len

pub first-requires : goal.first-requires
first-requires c =
    let m = c.args.mosaic.now in
    let n = c.requires.net_written in
    let l = (loop_is m.tile_rows m.tile_cols m.records.now m.well_formed c.args.feeds.now c.args.totals.now n.feeds_are n.own_are c.in-Err.ensures.answers).here.0 in
    tile_there m.tile_rows m.tile_cols m.records.now m.well_formed _ l c.tile_holding-tile.ensures

pub overflow_sub-result : goal.overflow_sub-result
overflow_sub-result c =
    let m = c.args.mosaic.now in
    let n = c.requires.net_written in
    let l = (loop_is m.tile_rows m.tile_cols m.records.now m.well_formed c.args.feeds.now c.args.totals.now n.feeds_are n.own_are c.in-Err.ensures.answers).here.0 in
    first_le m.tile_rows m.tile_cols m.records.now m.well_formed _ l c.tile_holding-tile.ensures c.first.ensures

pub returns-in-Err-clause-exits_joined : goal.returns-in-Err-clause-exits_joined
returns-in-Err-clause-exits_joined c =
    let m = c.args.mosaic.now in
    let n = c.requires.net_written in
    let l = (loop_is m.tile_rows m.tile_cols m.records.now m.well_formed c.args.feeds.now c.args.totals.now n.feeds_are n.own_are c.in-Err.ensures.answers).here.0 in
    answers_loop m.tile_rows m.tile_cols m.records.now m.well_formed c.args.feeds.now c.args.totals.now n.feeds_are n.own_are c.in-Err.ensures.answers c.tile_holding-tile.ensures
    (number_left m.tile_rows m.tile_cols m.records.now m.well_formed _ l c.tile_holding-tile.ensures c.first.ensures) c.requires.incoming_clear refl

pub gather-requires-clause-fit : goal.gather-requires-clause-fit
gather-requires-clause-fit c =
    let m = c.args.mosaic.now in
    let n = c.requires.net_written in (
      count_at c.count_net.new.totals,
      λ q x l e. search rules,
      gathers_fit m.tile_rows m.tile_cols m.records.now m.well_formed c.args.feeds.now c.args.totals.now n.feeds_are n.own_are c.args.pours.now _ n.pours_are c.in_default.ensures.answers,
    )

pub returns-clause-exits_joined : goal.returns-clause-exits_joined
returns-clause-exits_joined c =
    let m = c.args.mosaic.now in
    let n = c.requires.net_written in
    answers_done m.tile_rows m.tile_cols m.records.now m.well_formed c.args.feeds.now c.args.totals.now n.feeds_are n.own_are c.args.pours.now _ n.pours_are c.in_default.ensures.answers (c.gather.ensures _ (λ q x l e. search rules)) refl
