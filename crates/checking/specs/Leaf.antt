-- What the functions of checking promise each other. Nothing here is cited by a public promise.
-- Assumes nothing.
use Rattle.std.specs.Prelude.{Bool, List, ℕ, ◌+◌, ◌*◌, ◌<◌, eqb}
use Rattle.flow.specs.Net.{given}
use Rattle.sheet.specs.Sheet.{dest_of, unit, count_at}
use Rattle.sheet.specs.declared.grid.Grid.{Grid}
use Rattle.checking.specs.Check.{CountOk}

-- a test of equation 1 at place p
unfoldable pub right_at : ℕ → ℕ → List ℕ → List ℕ → ℕ → Bool
right_at rows cols grid counts p = eqb (count_at counts p) (unit grid p + given (rows * cols) (dest_of rows cols grid) (count_at counts) p)

-- the same of a grid as the code holds it
abbrev pub right_in : Grid → List ℕ → ℕ → Bool
right_in g counts p = right_at g.sheet.rows g.sheet.cols g.codes.now counts p

-- place p of a grid satisfies equation 1
abbrev pub CountOkIn : Grid → List ℕ → ℕ → Type 0
CountOkIn g counts p = CountOk g.sheet.rows g.sheet.cols g.codes.now counts p

-- each place below k does
abbrev pub RightBelow : Grid → (counts : List ℕ) (k : ℕ) → Type 0
RightBelow g counts k = (q : ℕ) → q < k → CountOkIn g counts q
