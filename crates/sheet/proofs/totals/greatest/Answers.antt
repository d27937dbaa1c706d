-- `sheet::totals::greatest` meets its contract: the greatest of the counts passed.
-- Assumes nothing.
use mathlib.Core.Path.{◌≡◌, ◌∙◌}
use Prim.Native.Nat.{max}
use Rattle.std.specs.List.{fold}
use Rattle.sheet.proofs.Gather.{greatest_of}
use borrow.Author.Rules.{rules}
use Rattle.sheet.proofs.totals.greatest.Goals as goal

pub returns : goal.returns
returns c =
    let e : c.fold.result ≡ fold (λ a x. max a x) 0 c.args.counts.now = search rules in
    e ∙ greatest_of c.args.counts.now
