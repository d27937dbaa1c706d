-- The promise of counting (paper 01, "Replies and what remains"): 1, 2, 3, 4, done.
-- Assumes nothing.
use Rattle.std.specs.Prelude.{Result, Ok, Err, List, [], ◌∷◌, ◌≡◌, ℕ, ◌*◌, length, replicate}
use Rattle.promise.specs.Links.{Unless, UnlessAll, UnlessSome, ◌then◌}
use Rattle.promise.specs.Reply.{Reply}
use Rattle.promise.specs.Reply.Reply.{reply}
use Rattle.sheet.specs.Shape.{SheetShape}
use Rattle.sheet.specs.Sheet.{CodeOk, SheetCounts, SheetLengths, LoopIn}
use Rattle.sheet.specs.Totals.{land_cells, outlets, greatest_count}
use Rattle.count.specs.declared.Totals.{Totals}
use Rattle.count.specs.declared.CountError.{CountError}
use Rattle.count.specs.declared.CountError.TheVariants.{Shape, Length, Code, Loop}

-- the paper's number and values for each answer
abbrev pub count_reply : Result Totals CountError → Reply
count_reply (Ok t) = reply 0 (t.land ∷ t.outlets ∷ t.greatest ∷ [])
count_reply (Err Shape) = reply 1 []
count_reply (Err Length) = reply 2 []
count_reply (Err (Code place)) = reply 3 (place ∷ [])
count_reply (Err (Loop place len)) = reply 4 (place ∷ len ∷ [])

-- an outcome: what is said, and what the counts then hold
pub record CountOutcome : Type 0 where
  pub said : Reply
  pub counts : List ℕ

abbrev pub ends : Reply → List ℕ → CountOutcome
ends said counts = record { said = said; counts = counts }

-- done: the counts satisfy equation 1 at every place; land, outlets and greatest count are returned
pub record Counted (rows cols : ℕ) (grid : List ℕ) (e : CountOutcome) : Type 0 where
  pub long : length e.counts ≡ rows * cols
  pub equation : SheetCounts rows cols grid e.counts
  pub said_is : e.said ≡ reply 0 (land_cells rows cols grid ∷ outlets rows cols grid ∷ greatest_count rows cols e.counts ∷ [])

-- of a sheet without bad codes: 4, done. After 4 the counts hold 0 throughout
abbrev pub Answered : (rows cols : ℕ) (grid : List ℕ) → CountOutcome → Type 0
Answered rows cols grid =
    UnlessSome (LoopIn rows cols grid) (λ v. ends (reply 4 (v.place ∷ v.len ∷ [])) (replicate (rows * cols) 0)) then
    Counted rows cols grid

-- of a sheet whose shape and lengths fit: 3, 4, done
abbrev pub CountCells : (rows cols : ℕ) (grid counts : List ℕ) → CountOutcome → Type 0
CountCells rows cols grid counts =
    UnlessAll (rows * cols) (CodeOk grid) (λ p. ends (reply 3 (p ∷ [])) counts) then
    Answered rows cols grid

-- counting: 1, 2, 3, 4, done. After 1, 2 and 3 the counts are as they were lent
abbrev pub CountPromise : (rows cols : ℕ) (grid counts : List ℕ) → CountOutcome → Type 0
CountPromise rows cols grid counts =
    Unless (SheetShape rows cols) (ends (reply 1 []) counts) then
    Unless (SheetLengths rows cols grid counts) (ends (reply 2 []) counts) then
    CountCells rows cols grid counts
