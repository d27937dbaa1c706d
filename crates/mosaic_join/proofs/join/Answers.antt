-- `mosaic_join::join` meets its contract: 9 for the mosaic's own numbers, what reading refuses, and the rest.
-- Assumes nothing.
use mathlib.Core.Path.{sym, ◌∙◌}
use Rattle.std.proofs.lemmas.Result.{err_from_is_err_and}
use Rattle.promise.specs.Links.Unless.{met}
use Rattle.promise.specs.Reply.{Reply}
use Rattle.mosaic_join.specs.Joining.{ends, works}
use Rattle.mosaic_join.proofs.Refuse.{refusal_said, read_refused, read_found, read_on, read_well}
use Rattle.mosaic_net.proofs.Told.{borders_read}
use Rattle.mosaic_join.proofs.join.Goals as goal

pub returns-in_err-borders : goal.returns-in_err-borders
returns-in_err-borders c =
    let a = c.args in
    let told = λ (r : Reply). ends r a.incoming.now (works a.work1.now a.work2.now a.work3.now a.work4.now a.work5.now) in
    let p = err_from_is_err_and c.from_residual.result c.from_residual.ensures.1 in
    rw (p.1, p.2)
    (met c.if-not-is_mosaic.ensures (read_refused a.tile_rows a.tile_cols a.records.now told c.in_err-borders.ensures (refusal_said c.in_err-borders.field-0.0)))

pub invariant_of-mosaic : goal.invariant_of-mosaic
invariant_of-mosaic c =
    let a = c.args in
    record { well_formed = read_well a.tile_rows a.tile_cols a.records.now c.if-not-is_mosaic.ensures (read_found a.tile_rows a.tile_cols a.records.now c.in_ok-borders.ensures) }

pub join_records-requires : goal.join_records-requires
join_records-requires c =
    let a = c.args in
    let f = read_found a.tile_rows a.tile_cols a.records.now c.in_ok-borders.ensures in
    f.all ∙ sym (borders_read a.tile_rows a.tile_cols a.records.now (read_well a.tile_rows a.tile_cols a.records.now c.if-not-is_mosaic.ensures f))

pub returns : goal.returns
returns c =
    let a = c.args in
    let told = λ (r : Reply). ends r a.incoming.now (works a.work1.now a.work2.now a.work3.now a.work4.now a.work5.now) in
    met c.if-not-is_mosaic.ensures (read_on a.tile_rows a.tile_cols a.records.now told (read_found a.tile_rows a.tile_cols a.records.now c.in_ok-borders.ensures) c.join_records.ensures)
