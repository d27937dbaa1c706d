-- The sheets of paper 01, "Sheets small enough to work by hand": A to M, which are marked with a star, and N. Each row of the table has a sheet and
-- what the paper says of it; `Says` is what that means.
-- Assumes nothing.
use Rattle.std.specs.Prelude.{List, [], ◌∷◌, ◌≡◌, ℕ, ◌*◌, ◌<◌, length, get_or, set}
use Rattle.promise.specs.Links.{FirstNot}
use Rattle.sheet.specs.Shape.{SheetShape}
use Rattle.sheet.specs.Sheet.{CodeOk, SheetCounts, SheetNoLoop, FirstSheetLoop}
use Rattle.sheet.specs.Totals.{land_cells, outlets, greatest_count}
use Rattle.mosaic.specs.Layout.{sheet_rows, sheet_cols}
use Rattle.marked.specs.Cut.{Joined, JoinLoop}

-- what the paper says of a sheet
pub data Answer : Type 0 where
  -- done: the counts by place; how many land cells and outlets there are, and the greatest count
  counted : List ℕ → (land outlets greatest : ℕ) → Answer
  -- refused with 4: the smallest place on any loop, and that loop's length
  loop : (place len : ℕ) → Answer
  -- refused with 3 at a place, though there is a loop, of this smallest place and this length
  code_though_loop : (place loop_place len : ℕ) → Answer
  -- cut into tiles of these heights and widths, done: the exits' totals in record order, 0 at border cells that are no exits, and the counts by place
  cut_counted : (heights widths totals counts : List ℕ) → Answer
  -- cut into tiles of these heights and widths, each without a loop, joining refused with 4: tile and border number of the first exit on any loop, and how many
  -- exits its loop has
  cut_loop : (heights widths : List ℕ) → (tile border exits : ℕ) → Answer

pub record Row : Type 0 where
  pub rows : ℕ
  pub cols : ℕ
  pub grid : List ℕ
  pub answer : Answer

-- a line of the table
abbrev sheet : ℕ → ℕ → List ℕ → Answer → Row
sheet rows cols grid answer = record { rows = rows; cols = cols; grid = grid; answer = answer }

-- case H, the program's grid
abbrev pub H : List ℕ
H =
    2 ∷ 4 ∷ 8 ∷
    1 ∷ 4 ∷ 16 ∷
    128 ∷ 4 ∷ 32 ∷ []

-- case L, whose water goes down and comes back
abbrev pub L : List ℕ
L =
    4 ∷ 1 ∷
    1 ∷ 64 ∷ []

-- the grid with another code at a place
abbrev pub changed : List ℕ → ℕ → ℕ → List ℕ
changed grid place code = set grid place code

abbrev pub table : List Row
table =
    sheet 1 1 (1 ∷ []) (counted (1 ∷ []) 1 1 1) ∷  -- A
    sheet 1 1 (255 ∷ []) (counted (0 ∷ []) 0 0 0) ∷  -- B
    sheet 1 3 (1 ∷ 1 ∷ 1 ∷ []) (counted (1 ∷ 2 ∷ 3 ∷ []) 3 1 3) ∷  -- C
    sheet 1 3 (1 ∷ 255 ∷ 16 ∷ []) (counted (1 ∷ 0 ∷ 1 ∷ []) 2 2 1) ∷  -- D
    sheet 1 2 (1 ∷ 16 ∷ []) (loop 0 2) ∷  -- E
    sheet 1 4 (1 ∷ 1 ∷ 1 ∷ 16 ∷ []) (loop 2 2) ∷  -- F
    sheet 1 3 (1 ∷ 16 ∷ 3 ∷ []) (code_though_loop 2 0 2) ∷  -- G
    sheet 3 3 H (counted (1 ∷ 1 ∷ 1 ∷ 1 ∷ 8 ∷ 1 ∷ 1 ∷ 9 ∷ 1 ∷ []) 9 1 9) ∷  -- H
    sheet 3 3 (changed H 0 1) (counted (1 ∷ 2 ∷ 1 ∷ 1 ∷ 8 ∷ 1 ∷ 1 ∷ 9 ∷ 1 ∷ []) 9 1 9) ∷  -- I
    sheet 3 3 (changed H 4 64) (loop 1 2) ∷  -- J
    sheet 3 3 (changed H 4 255) (counted (1 ∷ 1 ∷ 1 ∷ 1 ∷ 0 ∷ 1 ∷ 1 ∷ 1 ∷ 1 ∷ []) 8 8 1) ∷  -- K
    sheet 2 2 L (counted (1 ∷ 4 ∷ 2 ∷ 3 ∷ []) 4 1 4) ∷  -- L
    sheet 2 2 L (cut_counted (1 ∷ 1 ∷ []) (2 ∷ []) (1 ∷ 4 ∷ 0 ∷ 3 ∷ []) (1 ∷ 4 ∷ 2 ∷ 3 ∷ [])) ∷  -- L, cut between its rows
    sheet 1 2 (1 ∷ 16 ∷ []) (cut_loop (1 ∷ []) (1 ∷ 1 ∷ []) 0 0 2) ∷  -- M
    sheet 2 2 (2 ∷ 255 ∷ 255 ∷ 2 ∷ []) (cut_counted (1 ∷ 1 ∷ []) (1 ∷ 1 ∷ []) (1 ∷ 0 ∷ 0 ∷ 2 ∷ []) (1 ∷ 0 ∷ 0 ∷ 2 ∷ [])) ∷  -- N, in four tiles
    []

-- ---- what a row means

-- each place holds an arrow or the mark of an absent cell
abbrev pub CodesOk : Row → Type 0
CodesOk r = (p : ℕ) → p < r.rows * r.cols → CodeOk r.grid p

pub record Counted (r : Row) (counts : List ℕ) (land out greatest : ℕ) : Type 0 where
  pub codes : CodesOk r
  pub no_loop : SheetNoLoop r.rows r.cols r.grid
  pub long : length counts ≡ r.rows * r.cols
  pub equation : SheetCounts r.rows r.cols r.grid counts
  pub land_is : land_cells r.rows r.cols r.grid ≡ land
  pub outlets_are : outlets r.rows r.cols r.grid ≡ out
  pub greatest_is : greatest_count r.rows r.cols counts ≡ greatest

pub record Loops (r : Row) (place len : ℕ) : Type 0 where
  pub codes : CodesOk r
  pub first : FirstSheetLoop r.rows r.cols r.grid place len

pub record BadThoughLoop (r : Row) (place loop_place len : ℕ) : Type 0 where
  pub bad : FirstNot (r.rows * r.cols) (CodeOk r.grid) place
  pub first : FirstSheetLoop r.rows r.cols r.grid loop_place len

-- the height of each tile row, or the width of each tile column
abbrev pub sides : List ℕ → ℕ → ℕ
sides lengths i = get_or lengths i 0

-- the tiles' heights and widths come together to the sheet's
pub record CutAs (r : Row) (heights widths : List ℕ) : Type 0 where
  pub rows_are : sheet_rows (length heights) (sides heights) ≡ r.rows
  pub cols_are : sheet_cols (length widths) (sides widths) ≡ r.cols

pub record CutCounted (r : Row) (heights widths totals counts : List ℕ) : Type 0 where
  pub codes : CodesOk r
  pub cut_as : CutAs r heights widths
  pub joined : Joined (length heights) (length widths) (sides heights) (sides widths) r.grid totals counts

pub record CutLoops (r : Row) (heights widths : List ℕ) (tile border exits : ℕ) : Type 0 where
  pub codes : CodesOk r
  pub cut_as : CutAs r heights widths
  pub first : JoinLoop (length heights) (length widths) (sides heights) (sides widths) r.grid tile border exits

abbrev pub Answers : Row → Answer → Type 0
Answers r (counted counts land out greatest) = Counted r counts land out greatest
Answers r (loop place len) = Loops r place len
Answers r (code_though_loop place loop_place len) = BadThoughLoop r place loop_place len
Answers r (cut_counted heights widths totals counts) = CutCounted r heights widths totals counts
Answers r (cut_loop heights widths tile border exits) = CutLoops r heights widths tile border exits

-- a row's sheet has an allowed shape and as many codes as cells, and what is said of it is so
pub record Says (r : Row) : Type 0 where
  pub shape : SheetShape r.rows r.cols
  pub codes_long : length r.grid ≡ r.rows * r.cols
  pub answers : Answers r r.answer

-- each row of a list says what is so
pub data All : List Row → Type 0 where
  none : All []
  and : {r : Row} {rs : List Row} → Says r → All rs → All (r ∷ rs)
