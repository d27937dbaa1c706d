-- What the functions of the look-around method promise, said of a grid as the code holds it. Nothing here is cited by a public promise.
-- Assumes nothing.
use Rattle.std.specs.Prelude.{List, ℕ, ◌+◌}
use Rattle.sheet.specs.Grid.{OnGrid, cells_in, place_in}
use Rattle.sheet.specs.declared.grid.Grid.{Grid}
use Rattle.scan.specs.Scan.{WeightsFit, RightSoFar, ToCount, Counting, Moved, Walked, found, left}
use Rattle.scan.specs.declared.onward.Onward.{Onward}
use Rattle.scan.specs.declared.onward.Onward.TheVariants.{To, Out, Waits}

-- the place that water goes on to, the number of cells where it is out, and a greater number where it waits
abbrev pub gone : Grid → Onward → ℕ
gone g (To at) = place_in g at
gone g Out = cells_in g
gone g Waits = cells_in g + 1

-- a cell that water goes on to is one of the grid
abbrev pub OnwardIn : Grid → Onward → Type 0
OnwardIn g (To at) = OnGrid g at
OnwardIn g Out = Unit {0}
OnwardIn g Waits = Unit {0}

abbrev pub FitsIn : Grid → List ℕ → Type 0
FitsIn g more = WeightsFit g.sheet.rows g.sheet.cols g.codes.now more

abbrev pub RightIn : Grid → (more counts : List ℕ) → Type 0
RightIn g more counts = RightSoFar g.sheet.rows g.sheet.cols g.codes.now more counts

abbrev pub ToCountIn : Grid → List ℕ → ℕ → Type 0
ToCountIn g counts t = ToCount g.sheet.rows g.sheet.cols g.codes.now counts t

abbrev pub CountingIn : Grid → (more counts : List ℕ) → ℕ → Type 0
CountingIn g more counts k = Counting g.sheet.rows g.sheet.cols g.codes.now more counts k

abbrev pub MovedIn : Grid → (more before after : List ℕ) → (t u : ℕ) → Type 0
MovedIn g more before after t u = Moved g.sheet.rows g.sheet.cols g.codes.now more before after t u

abbrev pub WalkedIn : Grid → (more before after : List ℕ) → (t n : ℕ) → Type 0
WalkedIn g more before after t n = Walked g.sheet.rows g.sheet.cols g.codes.now more before after t n

abbrev pub found_in : Grid → List ℕ → ℕ
found_in g counts = found g.sheet.rows g.sheet.cols g.codes.now counts

abbrev pub left_in : Grid → List ℕ → ℕ → ℕ
left_in g counts t = left g.sheet.rows g.sheet.cols counts t
