-- `mosaic_read::record::BorderRecord::ways_ok` meets its contract: each way is well formed, or some is not.
-- Assumes nothing.
use mathlib.Core.Path.{refl, sym, ◌∙◌}
use Prim.Native.Nat.{ℕ}
use native.Mathlib.Omega.{arith}
use borrow.Author.Tests.{tests}
use Rattle.std.proofs.Common.{rules}
use Rattle.std.proofs.lemmas.Iterator.{cases_from_all, YieldsList-from_range}
use Rattle.mosaic_read.specs.BorderRecord.{RecordWayOk}
use Rattle.mosaic_read.proofs.Tests.{each_says}
use Rattle.mosaic_read.proofs.record.BorderRecord.ways_ok.Goals as goal

pub returns : goal.returns
returns c =
    let r = c.args.self.now in
    let fails = λ (b : ℕ). RecordWayOk r b → ⊥ in
    each_says r.borders (RecordWayOk r) fails
    (λ each. record {
      inside = omega arith;
      tag = c.if-bytes-start-ne3.false;
      long = sym c.two_at.ensures.value ∙ c.if-two_at-self.false;
      ways = each;
    })
    (λ b l f h. f (h.ways b l))
    c.all.result
    (cases_from_all _ _ _ (RecordWayOk r) fails c.all.ensures.ran (YieldsList-from_range 0 r.borders r.borders refl (omega arith)) (λ x q k. search (rules, tests)) (λ x q k. search (rules, tests)))
