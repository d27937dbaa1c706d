-- The promise of finishing a tile (paper 01, "Replies and what remains" and "Tiles and their border records"): 1, 2, 3, 10, 4, done.
-- Assumes nothing.
use Rattle.std.specs.Prelude.{Result, Ok, Err, Bool, false, ◌||◌, List, [], ◌∷◌, ◌≡◌, ℕ, ◌+◌, ◌*◌, ◌≤◌, eqb, length, replicate}
use Rattle.flow.specs.Net.{on, Counts, downb}
use Rattle.promise.specs.Links.{Unless, UnlessAll, UnlessSome, ◌then◌}
use Rattle.promise.specs.Reply.{Reply}
use Rattle.promise.specs.Reply.Reply.{reply}
use Rattle.sheet.specs.Shape.{TileShape}
use Rattle.sheet.specs.Sheet.{CodeOk, LoopIn, land_at, dest_of, unit, count_at}
use Rattle.tile.specs.Border.{border_cells, border_number, border_place, on_border}
use Rattle.tile_finish.specs.declared.FinishError.{FinishError}
use Rattle.tile_finish.specs.declared.FinishError.TheVariants.{Shape, Length, Code, Loop, Incoming}

-- the paper's number and values for each answer
abbrev pub finish_reply : Result (Unit {0}) FinishError → Reply
finish_reply (Ok done) = reply 0 []
finish_reply (Err Shape) = reply 1 []
finish_reply (Err Length) = reply 2 []
finish_reply (Err (Code place)) = reply 3 (place ∷ [])
finish_reply (Err (Loop place len)) = reply 4 (place ∷ len ∷ [])
finish_reply (Err (Incoming border)) = reply 10 (border ∷ [])

-- an outcome: what is said, and what the counts and the work buffer then hold
pub record FinishOutcome : Type 0 where
  pub said : Reply
  pub counts : List ℕ
  pub work : List ℕ

abbrev pub ends : Reply → List ℕ → List ℕ → FinishOutcome
ends said counts work = record { said = said; counts = counts; work = work }

-- grid, counts and the work buffer have as many elements as the tile has cells, incoming as many as it has border cells
pub record FinishLengths (rows cols : ℕ) (grid incoming counts work : List ℕ) : Type 0 where
  pub grid_long : length grid ≡ rows * cols
  pub incoming_long : length incoming ≡ border_cells rows cols
  pub counts_long : length counts ≡ rows * cols
  pub work_long : length work ≡ rows * cols

-- what comes in at border cell b is not above 4,194,304, the cells of the greatest mosaic, and is 0 where the cell is absent
pub record IncomingOk (rows cols : ℕ) (grid incoming : List ℕ) (b : ℕ) : Type 0 where
  pub most : count_at incoming b ≤ 4194304
  pub absent_none : land_at grid (border_place rows cols b) ≡ false → count_at incoming b ≡ 0

-- what comes in at place p from other tiles
unfoldable pub comes_at : (rows cols : ℕ) (incoming : List ℕ) → ℕ → ℕ
comes_at rows cols incoming p = on (on_border rows cols p) (count_at incoming (border_number rows cols p))

-- equation 1 on the tile, where each cell adds what comes in at it beside its own 1
abbrev pub FinishedCounts : (rows cols : ℕ) (grid incoming counts : List ℕ) → Type 0
FinishedCounts rows cols grid incoming counts =
    Counts (rows * cols) (dest_of rows cols grid) (λ p. unit grid p + comes_at rows cols incoming p) (count_at counts)

-- done: the counts satisfy that equation at every place, and the work buffer holds 0
pub record Finished (rows cols : ℕ) (grid incoming : List ℕ) (e : FinishOutcome) : Type 0 where
  pub long : length e.counts ≡ rows * cols
  pub equation : FinishedCounts rows cols grid incoming e.counts
  pub work_clear : e.work ≡ replicate (rows * cols) 0
  pub said_is : e.said ≡ reply 0 []

-- of a tile without bad codes, with incoming that can be taken: 4, done. After 4 counts and work buffer hold 0 throughout
abbrev pub Answered : (rows cols : ℕ) (grid incoming : List ℕ) → FinishOutcome → Type 0
Answered rows cols grid incoming =
    UnlessSome (LoopIn rows cols grid) (λ v. ends (reply 4 (v.place ∷ v.len ∷ [])) (replicate (rows * cols) 0) (replicate (rows * cols) 0)) then
    Finished rows cols grid incoming

-- of a tile whose shape and lengths fit: 3, 10, 4, done
abbrev pub FinishCells : (rows cols : ℕ) (grid incoming counts work : List ℕ) → FinishOutcome → Type 0
FinishCells rows cols grid incoming counts work =
    UnlessAll (rows * cols) (CodeOk grid) (λ p. ends (reply 3 (p ∷ [])) counts work) then
    UnlessAll (border_cells rows cols) (IncomingOk rows cols grid incoming) (λ b. ends (reply 10 (b ∷ [])) counts work) then
    Answered rows cols grid incoming

-- finishing: 1, 2, 3, 10, 4, done. After every refusal but 4 counts and work buffer are as they were lent
abbrev pub FinishPromise : (rows cols : ℕ) (grid incoming counts work : List ℕ) → FinishOutcome → Type 0
FinishPromise rows cols grid incoming counts work =
    Unless (TileShape rows cols) (ends (reply 1 []) counts work) then
    Unless (FinishLengths rows cols grid incoming counts work) (ends (reply 2 []) counts work) then
    FinishCells rows cols grid incoming counts work

-- ---- the paper's words for a finished count

-- border cell b is at p or upstream of p
abbrev pub at_or_above : (rows cols : ℕ) (grid : List ℕ) (p b : ℕ) → Bool
at_or_above rows cols grid p b = eqb (border_place rows cols b) p || downb (rows * cols) (dest_of rows cols grid) (border_place rows cols b) p
