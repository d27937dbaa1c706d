-- The promise of checking (paper 01, "Replies and what remains"): 1, 2, 3, 5, done. Checking writes to no buffer, so an outcome is a reply.
-- Assumes nothing.
use Rattle.std.specs.Prelude.{Result, Ok, Err, List, [], ◌∷◌, ℕ, ◌*◌, ◌<◌}
use Rattle.flow.specs.Net.{CountsAt}
use Rattle.promise.specs.Links.{Unless, UnlessAll, Exactly, ◌then◌}
use Rattle.promise.specs.Reply.{Reply}
use Rattle.promise.specs.Reply.Reply.{reply}
use Rattle.sheet.specs.Shape.{SheetShape}
use Rattle.sheet.specs.Sheet.{CodeOk, SheetLengths, SheetCounts, dest_of, unit, count_at}
use Rattle.checking.specs.declared.CheckError.{CheckError}
use Rattle.checking.specs.declared.CheckError.TheVariants.{Shape, Length, Code, Count}

-- the paper's number and values for each answer
abbrev pub check_reply : Result (Unit {0}) CheckError → Reply
check_reply (Ok done) = reply 0 []
check_reply (Err Shape) = reply 1 []
check_reply (Err Length) = reply 2 []
check_reply (Err (Code place)) = reply 3 (place ∷ [])
check_reply (Err (Count place)) = reply 5 (place ∷ [])

-- equation 1 at place p: the count is 1 plus the counts of the land cells whose arrows step onto p. At an absent cell, which adds nothing and
-- is given nothing, it says 0
abbrev pub CountOk : ℕ → ℕ → List ℕ → List ℕ → ℕ → Type 0
CountOk rows cols grid counts p = CountsAt (rows * cols) (dest_of rows cols grid) (unit grid) (count_at counts) p

-- of a sheet whose shape and lengths fit: 3, 5, done
abbrev pub CheckCells : (rows cols : ℕ) (grid counts : List ℕ) → Reply → Type 0
CheckCells rows cols grid counts =
    UnlessAll (rows * cols) (CodeOk grid) (λ p. reply 3 (p ∷ [])) then
    UnlessAll (rows * cols) (CountOk rows cols grid counts) (λ p. reply 5 (p ∷ [])) then
    Exactly (reply 0 [])

-- checking: 1, 2, 3, 5, done
abbrev pub CheckPromise : (rows cols : ℕ) (grid counts : List ℕ) → Reply → Type 0
CheckPromise rows cols grid counts =
    Unless (SheetShape rows cols) (reply 1 []) then
    Unless (SheetLengths rows cols grid counts) (reply 2 []) then
    CheckCells rows cols grid counts

-- ---- what done says

-- shape, lengths and codes are right, and the counts are those of equation 1
pub record Right (rows cols : ℕ) (grid counts : List ℕ) : Type 0 where
  pub shape : SheetShape rows cols
  pub lengths : SheetLengths rows cols grid counts
  pub codes : (p : ℕ) → p < rows * cols → CodeOk grid p
  pub equation : SheetCounts rows cols grid counts
