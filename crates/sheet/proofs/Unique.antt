-- What a sheet determines: one first loop at most, and one list of counts.
-- Assumes nothing.
use mathlib.Core.List.{List}
use mathlib.Core.Path.{◌≡◌, sym, ◌∙◌}
use Prim.Native.Nat.{ℕ, ◌*◌}
use lib.ListN.{length}
use lib.Seq.{ext_get_or}
use Rattle.promise.specs.Links.{AtMostOne}
use Rattle.flow.proofs.Loop.{first_loop_one}
use Rattle.sheet.specs.Sheet.{SheetCounts, LoopIn}
use Rattle.sheet.proofs.Passes.{sheet_counts_unique}

-- what refusal 4 returns is determined
pub loop_one : (rows cols : ℕ) (grid : List ℕ) → AtMostOne (LoopIn rows cols grid)
loop_one rows cols grid v w a b =
    let (place, len) = first_loop_one a b in
    λ i. record { place = place i; len = len i }

-- the counts of a grid are determined by equation 1
pub counts_one : (rows cols : ℕ) (grid c d : List ℕ) → length grid ≡ rows * cols → length c ≡ rows * cols → length d ≡ rows * cols
    → SheetCounts rows cols grid c → SheetCounts rows cols grid d → c ≡ d
counts_one rows cols grid c d long lc ld a b =
    ext_get_or 0 c d (lc ∙ sym ld) (λ q h. sheet_counts_unique rows cols grid long c d a b q (rw lc at h))
