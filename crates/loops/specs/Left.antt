-- Land cells that the scan has left without a count.
-- Assumes nothing.
use Rattle.std.specs.Prelude.{Bool, false, ◌&&◌, List, ◌≡◌, ℕ, eqb}
use Rattle.sheet.specs.Sheet.{land_at, count_at}

-- place q is a land cell without a count
unfoldable pub left_at : List ℕ → List ℕ → ℕ → Bool
left_at grid counts q = land_at grid q && eqb (count_at counts q) 0

abbrev pub NotLeft : List ℕ → List ℕ → ℕ → Type 0
NotLeft grid counts q = left_at grid counts q ≡ false
