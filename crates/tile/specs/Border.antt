-- The border cells of a tile: those in its first or last row or column, numbered in order of place, each once. All is said by counting
-- cells; how many there are, and where each stands, are laws (proofs/Cells, Where).
-- Assumes nothing.
use Rattle.std.specs.Prelude.{Bool, cond, ◌||◌, ℕ, zero, suc, ◌*◌, ◌/◌, ◌%◌, eqb, ltb}
use Rattle.flow.specs.Net.{number}

-- row r or column c is the first or the last
unfoldable pub edge_at : (rows cols r c : ℕ) → Bool
edge_at rows cols r c = eqb r 0 || (eqb (suc r) rows || (eqb c 0 || eqb (suc c) cols))

-- place p is a border cell
unfoldable pub on_border : (rows cols p : ℕ) → Bool
on_border rows cols p = edge_at rows cols (p / cols) (p % cols)

-- how many border cells a tile has
unfoldable pub border_cells : (rows cols : ℕ) → ℕ
border_cells rows cols = number (rows * cols) (on_border rows cols)

-- the number of the border cell at place p: how many border cells stand at earlier places
unfoldable pub border_number : (rows cols p : ℕ) → ℕ
border_number rows cols p = number p (on_border rows cols)

-- the number below n that passes a test and has b passing numbers before it
unfoldable pub nth : ℕ → (ℕ → Bool) → ℕ → ℕ
nth zero passes b = 0
nth (suc n) passes b = let r = nth n passes b in cond (ltb b (number n passes)) r n

-- the place of border cell b
unfoldable pub border_place : (rows cols b : ℕ) → ℕ
border_place rows cols b = nth (rows * cols) (on_border rows cols) b
