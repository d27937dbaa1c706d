-- What the moves of mending promise each other and the crate that calls them. Nothing here is cited by a public promise.
-- Assumes nothing.
use Rattle.std.specs.Prelude.{Option, Some, None, List, ◌≡◌, ℕ, suc, ◌*◌, ◌<◌, ◌≤◌, length, set}
use Rattle.flow.specs.Net.{steps}
use Rattle.flow.proofs.Mend.{Off}
use Rattle.sheet.specs.Sheet.{dest_of, unit, count_at, SheetCounts, SheetNoLoop, FirstSheetLoop, CountsOf}
use Rattle.sheet.specs.declared.grid.Grid.{Grid}
use Rattle.round.specs.declared.LoopFound.{LoopFound}

-- ---- a grid as the code holds it

-- it has no loop
abbrev pub Free : Grid → Type 0
Free g = SheetNoLoop g.sheet.rows g.sheet.cols g.codes.now

-- it has none without the cell p
abbrev pub FreeWithout : Grid → ℕ → Type 0
FreeWithout g p = SheetNoLoop g.sheet.rows g.sheet.cols (set g.codes.now p 255)

-- its counts
abbrev pub CountsIn : Grid → List ℕ → Type 0
CountsIn g counts = CountsOf g.sheet.rows g.sheet.cols g.codes.now counts

-- ---- where water lands, of n cells

-- a cell that it lands at is one of them; its place, or n where there is none
abbrev pub Lands : ℕ → Option ℕ → Type 0
Lands n (Some p) = p < n
Lands n None = Unit {0}

abbrev pub landing : ℕ → Option ℕ → ℕ
landing n (Some p) = p
landing n None = n

-- ---- following the water of a cell without which the sheet has no loop

-- it comes back, and has gone round the first loop; or it does not, and there is no loop
abbrev pub Follows : ℕ → ℕ → List ℕ → Option LoopFound → Type 0
Follows rows cols grid (Some r) = FirstSheetLoop rows cols grid r.first r.length
Follows rows cols grid None = SheetNoLoop rows cols grid

-- half-way: the water of `start` has come to p in one step and `further` more, not by way of `start`; `least` is the smallest place before p
pub record OnWay (to : ℕ → ℕ) (start least further p : ℕ) : Type 0 where
  pub here : p ≡ steps to (suc further) start
  pub never : (i : ℕ) → i < further → steps to (suc i) start ≡ start → ⊥
  pub met : (i : ℕ) × (i < suc further) × (steps to i start ≡ least)
  pub under : (j : ℕ) → j < suc further → least ≤ steps to j start

-- ---- the two moves

-- half-way: the counts are those of the grid but at cell t, where t is one, which holds `more` too little and `less` too much
pub record Owing (rows cols : ℕ) (grid counts : List ℕ) (t more less : ℕ) : Type 0 where
  pub long : length counts ≡ rows * cols
  pub off : t < rows * cols → Off (rows * cols) (dest_of rows cols grid) (unit grid) (count_at counts) t more less
  pub even : rows * cols ≤ t → SheetCounts rows cols grid counts

-- the same of a grid as the code holds it
abbrev pub OwingIn : Grid → (counts : List ℕ) (t more less : ℕ) → Type 0
OwingIn g counts t more less = Owing g.sheet.rows g.sheet.cols g.codes.now counts t more less
