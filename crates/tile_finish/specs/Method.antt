-- What the functions of finishing promise each other. Nothing here is cited by a public promise.
-- Assumes nothing.
use Rattle.std.specs.Prelude.{Bool, ◌||◌, ◌&&◌, List, ◌≡◌, ℕ, ◌*◌, ◌<◌, eqb, leb, ltb, length}
use Rattle.flow.specs.Net.{on}
use Rattle.sheet.specs.Compass.{is_arrow}
use Rattle.sheet.specs.Sheet.{count_at}
use Rattle.tile_finish.specs.Finish.{IncomingOk, comes_at}
use Rattle.tile.specs.Border.{border_cells, border_number}

-- a test of what comes in: n at a border cell with this code
unfoldable pub may_come_in : ℕ → ℕ → Bool
may_come_in code n = leb n 4194304 && (is_arrow code || eqb n 0)

-- `work` holds at each place what comes in there at the first b border cells, and 0 elsewhere
pub record Spread (rows cols : ℕ) (incoming work : List ℕ) (b : ℕ) : Type 0 where
  pub long : length work ≡ rows * cols
  pub holds : (p : ℕ) → p < rows * cols → count_at work p ≡ on (ltb (border_number rows cols p) b) (comes_at rows cols incoming p)

-- at each border cell comes in what can be taken
abbrev pub AllMayComeIn : (rows cols : ℕ) (grid incoming : List ℕ) → Type 0
AllMayComeIn rows cols grid incoming = (b : ℕ) → b < border_cells rows cols → IncomingOk rows cols grid incoming b
