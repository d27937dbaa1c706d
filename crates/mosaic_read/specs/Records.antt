-- The border records of a mosaic as a reader finds them in a string of bytes (paper 01, "Tiles and their border records"): what each record says, and
-- what it is that a record is well formed. Each record begins where the one before it ends.
-- Assumes nothing.
use Rattle.std.specs.Prelude.{true, List, ◌≡◌, ℕ, zero, suc, ◌+◌, ◌*◌, ◌/◌, ◌%◌, ◌<◌, ◌≤◌, length, get_or}
use Rattle.flow.specs.Net.{sum}
use Rattle.sheet.specs.Compass.{is_arrow, step_of}
use Rattle.sheet.specs.Shape.{TileShape}
use Rattle.sheet.specs.Sheet.{step_from}
use Rattle.tile.specs.Border.{border_cells, border_place}

-- ---- numbers, big-endian

abbrev pub byte_at : List ℕ → ℕ → ℕ
byte_at bytes i = get_or bytes i 0

unfoldable pub two_at : List ℕ → ℕ → ℕ
two_at bytes i = byte_at bytes i * 256 + byte_at bytes (i + 1)

unfoldable pub four_at : List ℕ → ℕ → ℕ
four_at bytes i = two_at bytes i * 65536 + two_at bytes (i + 2)

-- ---- a record that begins at byte o, of a tile with B border cells

-- field 1 at its start: rows, columns, tile row, tile column
abbrev pub rows_at : List ℕ → ℕ → ℕ
rows_at bytes o = two_at bytes (o + 3)

abbrev pub cols_at : List ℕ → ℕ → ℕ
cols_at bytes o = two_at bytes (o + 5)

abbrev pub tile_row_at : List ℕ → ℕ → ℕ
tile_row_at bytes o = two_at bytes (o + 7)

abbrev pub tile_col_at : List ℕ → ℕ → ℕ
tile_col_at bytes o = two_at bytes (o + 9)

-- field 2: the count of border cell b
abbrev pub counts_start : ℕ → ℕ
counts_start o = o + 11

abbrev pub cell_count : List ℕ → ℕ → ℕ → ℕ
cell_count bytes o b = four_at bytes (o + 14 + 4 * b)

-- field 3: the border number and the code of the way of border cell b
abbrev pub ways_start : ℕ → ℕ → ℕ
ways_start o B = o + 14 + 4 * B

abbrev pub cell_way : List ℕ → ℕ → ℕ → ℕ → ℕ
cell_way bytes o B b = two_at bytes (o + 17 + 4 * B + 3 * b)

abbrev pub cell_code : List ℕ → ℕ → ℕ → ℕ → ℕ
cell_code bytes o B b = byte_at bytes (o + 17 + 4 * B + 3 * b + 2)

-- the byte after it
abbrev pub end_at : ℕ → ℕ → ℕ
end_at o B = o + 17 + 7 * B

-- ---- record t

-- where it begins
unfoldable pub start_of : List ℕ → ℕ → ℕ
start_of bytes zero = 0
start_of bytes (suc t) = let o = start_of bytes t in end_at o (border_cells (rows_at bytes o) (cols_at bytes o))

abbrev pub rows_of : List ℕ → ℕ → ℕ
rows_of bytes t = rows_at bytes (start_of bytes t)

abbrev pub cols_of : List ℕ → ℕ → ℕ
cols_of bytes t = cols_at bytes (start_of bytes t)

abbrev pub tile_row_of : List ℕ → ℕ → ℕ
tile_row_of bytes t = tile_row_at bytes (start_of bytes t)

abbrev pub tile_col_of : List ℕ → ℕ → ℕ
tile_col_of bytes t = tile_col_at bytes (start_of bytes t)

unfoldable pub borders_of : List ℕ → ℕ → ℕ
borders_of bytes t = border_cells (rows_of bytes t) (cols_of bytes t)

abbrev pub count_in : List ℕ → ℕ → ℕ → ℕ
count_in bytes t b = cell_count bytes (start_of bytes t) b

abbrev pub way_in : List ℕ → ℕ → ℕ → ℕ
way_in bytes t b = cell_way bytes (start_of bytes t) (borders_of bytes t) b

abbrev pub code_in : List ℕ → ℕ → ℕ → ℕ
code_in bytes t b = cell_code bytes (start_of bytes t) (borders_of bytes t) b

-- in a mosaic of J tile columns: the rows of tile row i are those of its first record, the columns of tile column j those of its first record
unfoldable pub heights : List ℕ → ℕ → ℕ → ℕ
heights bytes J i = rows_of bytes (i * J)

unfoldable pub widths : List ℕ → ℕ → ℕ
widths bytes j = cols_of bytes j

-- ---- well formed

-- of the record that begins at byte o, of a tile of rows by cols with B border cells. Field 1: sides within bounds
pub record SidesOk (bytes : List ℕ) (o : ℕ) : Type 0 where
  pub inside : counts_start o ≤ length bytes
  pub tag : byte_at bytes o ≡ 1
  pub long : two_at bytes (o + 1) ≡ 8
  pub shape : TileShape (rows_at bytes o) (cols_at bytes o)

-- the tile's position, its agreement with rows of its tile row and columns of its tile column, and the bounds on the sums so far
pub record PlacedOk (bytes : List ℕ) (J t : ℕ) : Type 0 where
  pub row : tile_row_of bytes t ≡ t / J
  pub col : tile_col_of bytes t ≡ t % J
  pub height : rows_of bytes t ≡ heights bytes J (t / J)
  pub width : cols_of bytes t ≡ widths bytes (t % J)
  pub rows_most : sum (suc (t / J)) (heights bytes J) ≤ 4096
  pub cols_most : sum (suc (t % J)) (widths bytes) ≤ 4096

module _ (bytes : List ℕ) (o rows cols B : ℕ) where
  -- field 2: no count above rows × columns
  pub record CountsOk : Type 0 where
    pub inside : ways_start o B ≤ length bytes
    pub tag : byte_at bytes (counts_start o) ≡ 2
    pub long : two_at bytes (counts_start o + 1) ≡ 4 * B
    pub counts : (b : ℕ) → b < B → cell_count bytes o b ≤ rows * cols

  -- the mark of an absent border cell, and of one whose water ends inside
  abbrev pub AbsentMark : ℕ → Type 0
  AbsentMark b = (cell_way bytes o B b ≡ 65535) × (cell_code bytes o B b ≡ 255)

  abbrev pub InsideMark : ℕ → Type 0
  InsideMark b = (cell_way bytes o B b ≡ 65535) × (cell_code bytes o B b ≡ 0)

  -- a way that names a border cell of the tile that has the same way for itself, and one of the eight codes, stepping outside the tile from there
  pub record Leads (b : ℕ) : Type 0 where
    pub border : cell_way bytes o B b < B
    pub same_way : cell_way bytes o B (cell_way bytes o B b) ≡ cell_way bytes o B b
    pub same_code : cell_code bytes o B (cell_way bytes o B b) ≡ cell_code bytes o B b
    pub arrow : is_arrow (cell_code bytes o B b) ≡ true
    pub outside : rows * cols ≤ step_from rows cols (step_of (cell_code bytes o B b)) (border_place rows cols (cell_way bytes o B b))

  -- the absent mark exactly where the count is 0; any way but that and the mark of water that ends inside leads outside
  pub record WayOk (b : ℕ) : Type 0 where
    pub absent_zero : AbsentMark b → cell_count bytes o b ≡ 0
    pub zero_absent : cell_count bytes o b ≡ 0 → AbsentMark b
    pub leads : (AbsentMark b → ⊥) → (InsideMark b → ⊥) → Leads b

  -- field 3
  pub record WaysOk : Type 0 where
    pub inside : end_at o B ≤ length bytes
    pub tag : byte_at bytes (ways_start o B) ≡ 3
    pub long : two_at bytes (ways_start o B + 1) ≡ 3 * B
    pub ways : (b : ℕ) → b < B → WayOk b

-- the parts of record t in the order of reading: field 1, the tile's position, field 2, field 3
abbrev pub PartOk : (bytes : List ℕ) (J t part : ℕ) → Type 0
PartOk bytes J t zero = SidesOk bytes (start_of bytes t)
PartOk bytes J t (suc zero) = PlacedOk bytes J t
PartOk bytes J t (suc (suc zero)) = CountsOk bytes (start_of bytes t) (rows_of bytes t) (cols_of bytes t) (borders_of bytes t)
PartOk bytes J t (suc (suc (suc more))) = WaysOk bytes (start_of bytes t) (rows_of bytes t) (cols_of bytes t) (borders_of bytes t)

-- record t is well formed in a mosaic of J tile columns
pub record RecordOk (bytes : List ℕ) (J t : ℕ) : Type 0 where
  pub sides : SidesOk bytes (start_of bytes t)
  pub placed : PlacedOk bytes J t
  pub counts : CountsOk bytes (start_of bytes t) (rows_of bytes t) (cols_of bytes t) (borders_of bytes t)
  pub ways : WaysOk bytes (start_of bytes t) (rows_of bytes t) (cols_of bytes t) (borders_of bytes t)
