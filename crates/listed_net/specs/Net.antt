-- A net that is given as a list: the water of cell p goes to the cell that stands at p, and to no cell where that is not below the length.
-- What counting on it promises.
-- Assumes nothing.
use Rattle.std.specs.Prelude.{List, ◌≡◌, ℕ, ◌<◌, ◌≤◌, Result, Ok, Err, length, get_or}
use Rattle.flow.specs.Net.{sum, Counts, NoLoop, FirstLoop}
use Rattle.sheet.specs.Sheet.{count_at}
use Rattle.round.specs.declared.LoopFound.{LoopFound}

-- where the water of p goes; beyond the list to no cell
unfoldable pub to_at : List ℕ → ℕ → ℕ
to_at to p = get_or to p (length to)

-- what is lent: weights and a work buffer as long as the net, and weights whose sum fits 32 bits
pub record NetLent (to weights waiting : List ℕ) : Type 0 where
  pub cells_most : length to ≤ 1000000
  pub weights_long : length weights ≡ length to
  pub waiting_long : length waiting ≡ length to
  pub weights_fit : sum (length to) (count_at weights) < 4294967296

-- the net has no loop, and the totals are its counts
pub record NetCounts (to weights totals : List ℕ) : Type 0 where
  pub free : NoLoop (length to) (to_at to)
  pub counts : Counts (length to) (to_at to) (count_at weights) (count_at totals)

-- what each answer says
abbrev pub Answers : (to weights totals : List ℕ) → Result Unit LoopFound → Type 0
Answers to weights totals (Ok done) = NetCounts to weights totals
Answers to weights totals (Err loop) = FirstLoop (length to) (to_at to) loop.first loop.length

-- the promise: what the answer says, and both buffers keep their lengths
pub record NetPromise (to weights totals waiting : List ℕ) (r : Result Unit LoopFound) : Type 0 where
  pub totals_long : length totals ≡ length to
  pub waiting_long : length waiting ≡ length to
  pub answers : Answers to weights totals r
