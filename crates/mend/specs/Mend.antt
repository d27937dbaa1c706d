-- The promise of mending (paper 01, "Replies and what remains"): 1, 2, 3, 5, 6, 7, 4, done.
-- Assumes nothing.
use Rattle.std.specs.Prelude.{true, List, [], ◌∷◌, ◌≡◌, ℕ, ◌*◌, ◌<◌, length, set}
use Rattle.promise.specs.Links.{Unless, UnlessAll, UnlessSome, ◌then◌}
use Rattle.promise.specs.Reply.{Reply}
use Rattle.promise.specs.Reply.Reply.{reply}
use Rattle.sheet.specs.Compass.{is_code}
use Rattle.sheet.specs.Shape.{SheetShape}
use Rattle.sheet.specs.Sheet.{CodeOk, SheetCounts, SheetLengths, LoopIn}
use Rattle.checking.specs.Check.{CountOk, Right}

-- an outcome: what is said, and what grid and counts then hold
pub record MendOutcome : Type 0 where
  pub said : Reply
  pub grid : List ℕ
  pub counts : List ℕ

abbrev pub ends : Reply → List ℕ → List ℕ → MendOutcome
ends said grid counts = record { said = said; grid = grid; counts = counts }

-- the changed grid: the new code at the changed cell's place
abbrev pub changed : List ℕ → ℕ → ℕ → List ℕ
changed grid place code = set grid place code

-- done: the new code is stored, and the counts satisfy equation 1 at every place of the changed grid
pub record Mended (rows cols : ℕ) (grid : List ℕ) (place code : ℕ) (e : MendOutcome) : Type 0 where
  pub stored : e.grid ≡ changed grid place code
  pub long : length e.counts ≡ rows * cols
  pub equation : SheetCounts rows cols (changed grid place code) e.counts
  pub said_is : e.said ≡ reply 0 []

-- of a sheet that is right, a place of it and a code that is not bad: 4, done
abbrev pub MendChange : (rows cols : ℕ) (grid counts : List ℕ) (place code : ℕ) → MendOutcome → Type 0
MendChange rows cols grid counts place code =
    UnlessSome (LoopIn rows cols (changed grid place code)) (λ v. ends (reply 4 (v.place ∷ v.len ∷ [])) grid counts) then
    Mended rows cols grid place code

-- of a sheet that is right: 6, 7, 4, done
abbrev pub MendCell : (rows cols : ℕ) (grid counts : List ℕ) (place code : ℕ) → MendOutcome → Type 0
MendCell rows cols grid counts place code =
    Unless (place < rows * cols) (ends (reply 6 []) grid counts) then
    Unless (is_code code ≡ true) (ends (reply 7 []) grid counts) then
    MendChange rows cols grid counts place code

-- mending: 1, 2, 3, 5, 6, 7, 4, done. After every refusal grid and counts are as they were lent
abbrev pub MendPromise : (rows cols : ℕ) (grid counts : List ℕ) (place code : ℕ) → MendOutcome → Type 0
MendPromise rows cols grid counts place code =
    Unless (SheetShape rows cols) (ends (reply 1 []) grid counts) then
    Unless (SheetLengths rows cols grid counts) (ends (reply 2 []) grid counts) then
    UnlessAll (rows * cols) (CodeOk grid) (λ p. ends (reply 3 (p ∷ [])) grid counts) then
    UnlessAll (rows * cols) (CountOk rows cols grid counts) (λ p. ends (reply 5 (p ∷ [])) grid counts) then
    MendCell rows cols grid counts place code

-- ---- before the changed grid is looked at

-- none of 1, 2, 3, 5, 6 and 7 applies
pub record Mendable (rows cols : ℕ) (grid counts : List ℕ) (place code : ℕ) : Type 0 where
  pub right : Right rows cols grid counts
  pub inside : place < rows * cols
  pub code_ok : is_code code ≡ true
