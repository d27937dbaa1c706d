-- A sheet of paper 01: its places, land, where a cell's water goes, and with that its net. Downstream, loops and counts of a sheet are those
-- of its net (crate flow). A grid is a list of codes, one a place, row by row from the north-west.
-- Assumes nothing.
use Rattle.std.specs.Prelude.{Bool, true, false, cond, not, ◌&&◌, ◌||◌, ◌≡◌, List, ℕ, ◌+◌, ◌*◌, ◌/◌, ◌%◌, ◌<◌, eqb, ltb, ℤ, pos, negsuc, ◌+ℤ◌, length, get_or}
use Rattle.flow.specs.Net.{on, Counts, Down, OnLoop, NoLoop, FirstLoop, downb}
use Rattle.sheet.specs.Compass.{is_arrow, is_code, step_of}
use Rattle.sheet.specs.declared.compass.Step.{Step}

-- ---- land

-- the code at place p; beyond the grid there is no land
abbrev pub code_at : List ℕ → ℕ → ℕ
code_at g p = get_or g p 255

-- place p holds no bad code
abbrev pub CodeOk : List ℕ → ℕ → Type 0
CodeOk g p = is_code (code_at g p) ≡ true

-- a cell with an arrow is land
unfoldable pub land_at : List ℕ → ℕ → Bool
land_at g p = is_arrow (code_at g p)

-- ---- steps

-- a row or a column is one of the first `most`
abbrev pub inside : ℕ → ℤ → Bool
inside most (pos n) = ltb n most
inside most (negsuc n) = false

-- the number of a row or a column that is inside
abbrev pub coordinate : ℤ → ℕ
coordinate (pos n) = n
coordinate (negsuc n) = 0

-- the place of a row and a column, or rows × cols, which is no place, where they lie off the sheet
abbrev pub place_of : ℕ → ℕ → ℤ → ℤ → ℕ
place_of rows cols r c = cond (inside rows r) (cond (inside cols c) (coordinate r * cols + coordinate c) (rows * cols)) (rows * cols)

-- the place one step from place p, or rows × cols where the step leaves the sheet
unfoldable pub step_from : ℕ → ℕ → Step → ℕ → ℕ
step_from rows cols s p = place_of rows cols (pos (p / cols) +ℤ s.1) (pos (p % cols) +ℤ s.2)

-- place q where it is land, and rows × cols where it is not
abbrev pub if_land : ℕ → ℕ → List ℕ → ℕ → ℕ
if_land rows cols g q = cond (land_at g q) q (rows * cols)

-- where the water of p goes: the land cell that its arrow steps onto, or rows × cols where there is none
unfoldable pub dest_of : ℕ → ℕ → List ℕ → ℕ → ℕ
dest_of rows cols g p = cond (is_arrow (code_at g p)) (if_land rows cols g (step_from rows cols (step_of (code_at g p)) p)) (rows * cols)

-- an arrow may leave the sheet or point at an absent cell; its cell is then an outlet
unfoldable pub outlet_at : ℕ → ℕ → List ℕ → ℕ → Bool
outlet_at rows cols g p = land_at g p && not (ltb (dest_of rows cols g p) (rows * cols))

-- ---- the count equation

-- a land cell adds 1, an absent cell 0
abbrev pub unit : List ℕ → ℕ → ℕ
unit g p = on (land_at g p) 1

-- the count at place p of a list of counts
abbrev pub count_at : List ℕ → ℕ → ℕ
count_at counts p = get_or counts p 0

-- each count is 1 plus the counts of the cells whose arrows step onto this cell, and 0 at an absent cell
abbrev pub SheetCounts : ℕ → ℕ → List ℕ → List ℕ → Type 0
SheetCounts rows cols g counts = Counts (rows * cols) (dest_of rows cols g) (unit g) (count_at counts)

-- the counts of a sheet: one for each place, and the equation at every place
pub record CountsOf (rows cols : ℕ) (g counts : List ℕ) : Type 0 where
  pub long : length counts ≡ rows * cols
  pub equation : SheetCounts rows cols g counts

-- ---- downstream, and loops

-- q is downstream of p: a land cell reached by following arrows from p, one step or more
abbrev pub Downstream : ℕ → ℕ → List ℕ → ℕ → ℕ → Type 0
Downstream rows cols g p q = (q < rows * cols) × Down (dest_of rows cols g) p q

-- q is a land cell whose water passes through p: it is p itself, or p is downstream of it
unfoldable pub passes : ℕ → ℕ → List ℕ → ℕ → ℕ → Bool
passes rows cols g p q = land_at g q && (eqb q p || downb (rows * cols) (dest_of rows cols g) q p)

-- p lies on a loop
abbrev pub SheetOnLoop : ℕ → ℕ → List ℕ → ℕ → Type 0
SheetOnLoop rows cols g p = OnLoop (rows * cols) (dest_of rows cols g) p

-- arrows form no loop
abbrev pub SheetNoLoop : ℕ → ℕ → List ℕ → Type 0
SheetNoLoop rows cols g = NoLoop (rows * cols) (dest_of rows cols g)

-- p is the smallest place on any loop, and that loop has `len` cells
abbrev pub FirstSheetLoop : ℕ → ℕ → List ℕ → ℕ → ℕ → Type 0
FirstSheetLoop rows cols g p len = FirstLoop (rows * cols) (dest_of rows cols g) p len

-- what refusal 4 returns: a place, and a number of cells
pub record LoopFound : Type 0 where
  pub place : ℕ
  pub len : ℕ

abbrev pub LoopIn : ℕ → ℕ → List ℕ → LoopFound → Type 0
LoopIn rows cols g v = FirstSheetLoop rows cols g v.place v.len

-- ---- buffers

-- grid and counts have as many elements as the sheet has cells
pub record SheetLengths (rows cols : ℕ) (g counts : List ℕ) : Type 0 where
  pub grid_long : length g ≡ rows * cols
  pub counts_long : length counts ≡ rows * cols
