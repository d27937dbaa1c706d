-- What counting returns when it is done: the number of land cells, the number of outlets, and the greatest count.
-- Assumes nothing.
use Rattle.std.specs.Prelude.{List, ℕ, zero, suc, ◌*◌, max}
use Rattle.flow.specs.Net.{number}
use Rattle.sheet.specs.Sheet.{land_at, outlet_at, count_at}

abbrev pub land_cells : ℕ → ℕ → List ℕ → ℕ
land_cells rows cols g = number (rows * cols) (land_at g)

abbrev pub outlets : ℕ → ℕ → List ℕ → ℕ
outlets rows cols g = number (rows * cols) (outlet_at rows cols g)

-- the greatest of f 0, f 1, .., f (n - 1), and 0 where there is none
unfoldable pub greatest_below : ℕ → (ℕ → ℕ) → ℕ
greatest_below zero f = 0
greatest_below (suc n) f = max (greatest_below n f) (f n)

abbrev pub greatest_count : ℕ → ℕ → List ℕ → ℕ
greatest_count rows cols counts = greatest_below (rows * cols) (count_at counts)
