-- A move by one along a line in pieces, as tile rows and tile columns are: from a number of piece i, which is `long` numbers long, to the number that is
-- one less than x, counted from the start of piece i. So x is 0 where it moves back over the start, and more than `long` where it moves on over the end.
-- Nothing here is cited by a public promise.
-- Assumes nothing.
use Rattle.std.specs.Prelude.{cond, ℕ, ◌+◌, ◌-◌, eqb, ltb}

-- the piece it moves to, or the number of pieces where there is none
unfoldable pub piece_after : (pieces i long x : ℕ) → ℕ
piece_after pieces i long x = cond (eqb x 0) (cond (eqb i 0) pieces (i - 1)) (cond (ltb long x) (i + 1) i)

-- its number in piece j, which it moves to and which is `there` numbers long
unfoldable pub number_after : (i x j there : ℕ) → ℕ
number_after i x j there = cond (ltb j i) (there - 1) (cond (ltb i j) 0 (x - 1))
