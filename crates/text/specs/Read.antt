-- What the functions that read a text, and those that read its parts, promise.
-- Assumes nothing.
use Rattle.std.specs.Prelude.{Result, Ok, Err, cond, List, ◌∷◌, ◌++◌, map, ◌⊎◌, ◌≡◌, ℕ, zero, suc, ◌*◌, ◌-◌, ◌≤◌, ltb, length, drop}
use Rattle.sheet.specs.Shape.{Within}
use Rattle.sheet.specs.declared.shape.Shape.{Shape}
use Rattle.text.specs.Text.{decimal, lines, Each, Short, Opens, Holds, Sides, FirstLine, Proper, StopsAt, NoFirstLine}
use Rattle.text.specs.declared.Malformed.{Malformed}
use Rattle.text.specs.declared.Read.{Read}
use Rattle.text.specs.declared.TextError.{TextError}
use Rattle.text.specs.declared.TextError.TheVariants as E
use Rattle.text.specs.declared.TheConstants.{MOST}

-- a code as a grid of bytes keeps it: one above 255, which no byte holds, as another bad code
unfoldable pub kept : ℕ → ℕ
kept code = cond (ltb code 256) code 3

-- what reading a text answers: a proper text, whose codes the grid then holds at its start; that the text stops, in its first line or after one
-- whose sides are within bounds; or a first line whose sides are not
abbrev pub Parses : (text before after : List ℕ) → Result (Shape MOST) TextError → Type 0
Parses text before after (Ok shape) =
    (codes : List ℕ) × Within 64 shape.rows shape.cols × Holds shape.rows shape.cols codes text × (after ≡ map kept codes ++ drop (shape.rows * shape.cols) before)
Parses text before after (Err (E.Malformed k)) =
    NoFirstLine text k ⊎ ((sides : Sides) × Within 64 sides.rows sides.cols × FirstLine text sides × StopsAt Proper text k)
Parses text before after (Err E.Shape) = (sides : Sides) × FirstLine text sides × (Within 64 sides.rows sides.cols → ⊥)

-- ---- lines number by number

-- the byte after a number that has so many numbers to its right in its line
unfoldable pub end_of : ℕ → ℕ
end_of zero = 10
end_of (suc right) = 32

-- ---- of its parts

-- n bytes of r begin a number, and with the byte after them no number that is followed by `end` goes on
pub record Stuck (end : ℕ) (r : List ℕ) (n : ℕ) : Type 0 where
  pub got : List ℕ
  pub rest : List ℕ
  pub splits : r ≡ got ++ rest
  pub long : length got ≡ n
  pub begins : (v : ℕ) × (t : List ℕ) × Short v × (got ++ t ≡ decimal v)
  pub blocked : (v b : ℕ) (x y z : List ℕ) → Short v → rest ≡ b ∷ x → got ++ b ∷ y ≡ decimal v ++ end ∷ z → ⊥

-- a number and the byte `end` stand at `at`; or the text is stuck there
abbrev pub Reads : (text : List ℕ) (at end : ℕ) → Result (Read ℕ) Malformed → Type 0
Reads text at end (Ok n) = Short n.value × (n.next ≤ length text) × (drop at text ≡ decimal n.value ++ end ∷ drop n.next text)
Reads text at end (Err stop) = (at ≤ stop.at) × Stuck end (drop at text) (stop.at - at)

-- the texts with a proper first line, and the proper texts of given sides
abbrev pub Opening : List ℕ → Type 0
Opening text = (rows : ℕ) × (cols : ℕ) × (rest : List ℕ) × Opens rows cols rest text

abbrev pub ProperOf : (rows cols : ℕ) → List ℕ → Type 0
ProperOf rows cols text = (codes : List ℕ) × Holds rows cols codes text

-- the first line, and where it ends; or the text stops in it
abbrev pub ReadsFirst : List ℕ → Result (Read (ℕ × ℕ)) Malformed → Type 0
ReadsFirst text (Ok first) = (first.next ≤ length text) × Opens first.value.0 first.value.1 (drop first.next text) text
ReadsFirst text (Err stop) = StopsAt Opening text stop.at

-- the bytes are lines of codes, one for each row
pub record Rows (rows cols : ℕ) (codes bytes : List ℕ) : Type 0 where
  pub codes_short : Each Short codes
  pub codes_long : length codes ≡ rows * cols
  pub reads : bytes ≡ lines rows cols codes

-- the bytes are lines of codes, and the grid holds them at its start; or the bytes stop
abbrev pub ReadsBody : (rows cols : ℕ) (bytes before after : List ℕ) → Result Unit Malformed → Type 0
ReadsBody rows cols bytes before after (Ok _) = (codes : List ℕ) × Rows rows cols codes bytes × (after ≡ map kept codes ++ drop (rows * cols) before)
ReadsBody rows cols bytes before after (Err stop) = StopsAt (λ s. (codes : List ℕ) × Rows rows cols codes s) bytes stop.at
