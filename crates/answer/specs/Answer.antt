-- The promise of the count program (paper 01, "The count program"): the bytes that it writes, for every text.
-- Assumes nothing.
use Rattle.std.specs.Prelude.{List, [], ◌∷◌, ◌≡◌, ℕ, ◌*◌, ◌≤◌, length, replicate}
use Rattle.promise.specs.Links.{Unless, UnlessAll, UnlessSome, Given, Exactly, ◌then◌}
use Rattle.sheet.specs.Shape.{Within}
use Rattle.sheet.specs.Sheet.{CodeOk, LoopIn, CountsOf}
use Rattle.sheet.specs.Totals.{land_cells, outlets, greatest_count}
use Rattle.text.specs.Text.{FirstLine, NoFirstLine, Holds, Proper, StopsAt}
use Rattle.show.specs.Show.{refusal, done}
use Rattle.writer.specs.Wrote.{Wrote}

-- of a text that holds these codes: 3, 4, done
abbrev pub Told : (rows cols : ℕ) (codes said : List ℕ) → Type 0
Told rows cols codes =
    UnlessAll (rows * cols) (CodeOk codes) (λ p. refusal 3 (p ∷ [])) then
    UnlessSome (LoopIn rows cols codes) (λ v. refusal 4 (v.place ∷ v.len ∷ [])) then
    Given (CountsOf rows cols codes) (λ counts.
    Exactly (done rows cols counts (land_cells rows cols codes) (outlets rows cols codes) (greatest_count rows cols counts)))

-- of every text: 11 in the first line, 1 as soon as that line has been read, 11 anywhere after it, then 3, 4, done
abbrev pub AnswerPromise : (text said : List ℕ) → Type 0
AnswerPromise text =
    UnlessSome (NoFirstLine text) (λ k. refusal 11 (k ∷ [])) then
    Given (FirstLine text) (λ sides.
    Unless (Within 64 sides.rows sides.cols) (refusal 1 []) then
    UnlessSome (StopsAt Proper text) (λ k. refusal 11 (k ∷ [])) then
    Given (λ codes. Holds sides.rows sides.cols codes text) (Told sides.rows sides.cols))

-- ---- the function

-- the buffers that it is lent: 4,096 codes, 4,096 counts, and room for the longest answer
pub record Buffers (grid counts out : List ℕ) : Type 0 where
  pub grid_room : 4096 ≤ length grid
  pub counts_room : 4096 ≤ length counts
  pub out_room : 20680 ≤ length out

-- how it ends: what is promised stands at the start of `out`, its length is answered, nothing else there has changed, and the work buffers
-- hold 0 throughout
pub record Answers (text grid counts out grid' counts' out' : List ℕ) (n : ℕ) : Type 0 where
  pub said : List ℕ
  pub promised : AnswerPromise text said
  pub written : Wrote said out 0 out' n
  pub grid_cleared : grid' ≡ replicate (length grid) 0
  pub counts_cleared : counts' ≡ replicate (length counts) 0
