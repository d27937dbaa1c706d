-- `around::inner` meets its contract: the eight neighbours stand at fixed distances.
-- Assumes nothing.
use mathlib.Core.Path.{◌∙◌}
use Rattle.around.proofs.Weigh.{sum_eight}
use Rattle.around.proofs.Inside.{seen0, seen1, seen2, seen3, seen4, seen5, seen6, seen7}
use Rattle.around.proofs.inner.Goals as goal

pub returns : goal.returns
returns g c =
    let d = c.args.grid.now in
    let w = g.W.Weight.weight c.args.weight.now in
    sum_eight _
    (c.seen-east.ensures.value ∙ seen0 d.sheet.rows d.sheet.cols d.codes.now w c.args.p c.requires.inner)
    (c.seen-south_east.ensures.value ∙ seen1 d.sheet.rows d.sheet.cols d.codes.now w c.args.p c.requires.inner)
    (c.seen-south.ensures.value ∙ seen2 d.sheet.rows d.sheet.cols d.codes.now w c.args.p c.requires.inner)
    (c.seen-south_west.ensures.value ∙ seen3 d.sheet.rows d.sheet.cols d.codes.now w c.args.p c.requires.inner)
    (c.seen-west.ensures.value ∙ seen4 d.sheet.rows d.sheet.cols d.codes.now w c.args.p c.requires.inner)
    (c.seen-north_west.ensures.value ∙ seen5 d.sheet.rows d.sheet.cols d.codes.now w c.args.p c.requires.inner)
    (c.seen-north.ensures.value ∙ seen6 d.sheet.rows d.sheet.cols d.codes.now w c.args.p c.requires.inner)
    (c.seen-north_east.ensures.value ∙ seen7 d.sheet.rows d.sheet.cols d.codes.now w c.args.p c.requires.inner)
