-- What a neighbour adds to a look-around.
-- Assumes nothing.
use Rattle.std.specs.Prelude.{cond, List, ℕ, eqb}
use Rattle.sheet.specs.Sheet.{count_at}

-- 1 for each place
abbrev pub one : ℕ → ℕ
one q = 1

-- a number above every sum of eight counts
abbrev pub no_count : ℕ
no_count = 1099511627776

-- a count, or that number where there is none yet
unfoldable pub weigh : ℕ → ℕ
weigh n = cond (eqb n 0) no_count n

-- the counts so weighed
abbrev pub weighed : List ℕ → ℕ → ℕ
weighed counts q = weigh (count_at counts q)
