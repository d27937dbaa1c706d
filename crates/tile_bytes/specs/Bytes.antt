-- The bytes of a tile's border record (paper 01, "Tiles and their border records"): three fields, numbers big-endian.
-- Assumes nothing.
use Rattle.std.specs.Prelude.{List, [], ◌∷◌, ◌++◌, ℕ, zero, suc, ◌+◌, ◌*◌, ◌/◌, ◌%◌, length}
use Rattle.sheet.specs.Sheet.{count_at}
use Rattle.tile.specs.Border.{border_cells, border_place}
use Rattle.tile.specs.Way.{Way, way_at}

-- a number in two bytes, and in four
abbrev pub two : ℕ → List ℕ
two n = n / 256 % 256 ∷ n % 256 ∷ []

abbrev pub four : ℕ → List ℕ
four n = n / 16777216 % 256 ∷ n / 65536 % 256 ∷ n / 256 % 256 ∷ n % 256 ∷ []

-- a field: a one-byte tag, a two-byte length, and contents
abbrev pub field : ℕ → List ℕ → List ℕ
field tag contents = tag ∷ two (length contents) ++ contents

-- f 0 ++ f 1 ++ .. ++ f (n - 1)
unfoldable pub each : ℕ → (ℕ → List ℕ) → List ℕ
each zero f = []
each (suc n) f = let r = each n f in r ++ f n

-- field 1: rows, columns, tile row, tile column
abbrev pub sides : (rows cols tile_row tile_col : ℕ) → List ℕ
sides rows cols tile_row tile_col = two rows ++ two cols ++ two tile_row ++ two tile_col

-- field 2: the count of border cell b within the tile
abbrev pub border_count : (rows cols : ℕ) → List ℕ → ℕ → List ℕ
border_count rows cols counts b = four (count_at counts (border_place rows cols b))

-- field 3: the way of border cell b, two bytes border number and one byte code
abbrev pub border_way : (rows cols : ℕ) → List ℕ → ℕ → Way
border_way rows cols grid b = way_at rows cols grid (border_place rows cols b)

abbrev pub way_bytes : Way → List ℕ
way_bytes w = two w.number ++ w.code ∷ []

-- the record of the tile of a grid, with its counts
unfoldable pub record_bytes : (rows cols tile_row tile_col : ℕ) (grid counts : List ℕ) → List ℕ
record_bytes rows cols tile_row tile_col grid counts =
    field 1 (sides rows cols tile_row tile_col)
    ++ field 2 (each (border_cells rows cols) (λ b. border_count rows cols counts b))
    ++ field 3 (each (border_cells rows cols) (λ b. way_bytes (border_way rows cols grid b)))

-- how many bytes a record has
abbrev pub record_length : (rows cols : ℕ) → ℕ
record_length rows cols = 17 + 7 * border_cells rows cols
