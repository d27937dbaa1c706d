-- What the functions of the count program promise each other. Nothing here is cited by a public promise.
-- Assumes nothing.
use Rattle.std.specs.Prelude.{List, ◌≡◌, ℕ, zero, suc, ◌+◌, ◌*◌, length, get_or}
use Rattle.promise.specs.Reply.{Reply}
use Rattle.promise.specs.Reply.Reply.{reply}
use Rattle.sheet.specs.declared.shape.Shape.{Shape}
use Rattle.show.specs.Show.{refusal, done}
use Rattle.writer.specs.declared.Writer.{Writer}
use Rattle.writer.specs.Parts.{Room, Writes}
use Rattle.answer.specs.Answer.{Told, AnswerPromise}

-- a reply to counting as it is written
unfoldable pub shown : (rows cols : ℕ) (counts : List ℕ) → Reply → List ℕ
shown rows cols counts (reply zero values) = done rows cols counts (get_or values 0 0) (get_or values 1 0) (get_or values 2 0)
shown rows cols counts (reply (suc n) values) = refusal (suc n) values

-- what counting is lent: buffers of the sheet's length, and room for the longest answer
pub record Lent (shape : Shape 64) (grid counts : List ℕ) (to : Writer) : Type 0 where
  pub grid_long : length grid ≡ shape.rows * shape.cols
  pub counts_long : length counts ≡ shape.rows * shape.cols
  pub room : Room (200 + 5 * (shape.rows * shape.cols)) to

-- how counting a grid ends has been written
abbrev pub Tells : (rows cols : ℕ) (grid : List ℕ) (before after : Writer) → Type 0
Tells rows cols grid before after = (said : List ℕ) × Told rows cols grid said × Writes said before after

-- what is promised of the text has been written
abbrev pub TellsText : (text : List ℕ) (before after : Writer) → Type 0
TellsText text before after = (said : List ℕ) × AnswerPromise text said × Writes said before after
