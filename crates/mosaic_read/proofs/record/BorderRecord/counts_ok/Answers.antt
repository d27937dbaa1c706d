-- `mosaic_read::record::BorderRecord::counts_ok` meets its contract: each count is within bounds, or some is not.
-- Assumes nothing.
use mathlib.Core.Path.{refl, sym, ◌∙◌}
use Prim.Native.Nat.{ℕ, ◌*◌, ◌≤◌, ◌<◌}
use native.Mathlib.Omega.{arith}
use borrow.Author.Tests.{tests}
use Rattle.std.proofs.Common.{rules}
use Rattle.std.proofs.lemmas.Iterator.{cases_from_all, YieldsList-from_range}
use Rattle.mosaic_read.specs.BorderRecord.{record_count}
use Rattle.mosaic_read.proofs.Sides.{borders_most}
use Rattle.mosaic_read.proofs.Tests.{each_says}
use Rattle.mosaic_read.proofs.record.BorderRecord.counts_ok.Goals as goal

pub overflow_mul-self : goal.overflow_mul-self
overflow_mul-self c = omega (arith, borders_most c.args.self.now)

pub overflow_add-self : goal.overflow_add-self
overflow_add-self c = omega (arith, borders_most c.args.self.now)

pub returns : goal.returns
returns c =
    let r = c.args.self.now in
    let fits = λ (b : ℕ). record_count r b ≤ r.tile.rows * r.tile.cols in
    let exceeds = λ (b : ℕ). r.tile.rows * r.tile.cols < record_count r b in
    each_says r.borders fits exceeds
    (λ each. record {
      inside = omega arith;
      tag = c.if-bytes-start-ne2.false;
      long = sym c.two_at.ensures.value ∙ c.if-two_at-self.false;
      counts = each;
    })
    (λ b l more h. omega (arith, h.counts b l))
    c.all.result
    (cases_from_all _ _ _ fits exceeds c.all.ensures.ran (YieldsList-from_range 0 r.borders r.borders refl (omega arith)) (λ x q k. search (rules, tests)) (λ x q k. search (rules, tests)))
