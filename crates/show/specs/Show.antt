-- What the count program writes (paper 01, "The count program"): lines of words and numbers, as bytes.
-- Assumes nothing.
use Rattle.std.specs.Prelude.{List, [], ◌∷◌, ◌++◌, ℕ}
use Prim.Native.Char.{code}
use Prim.Native.String.{String}
use Prim.Native.String as S
use Rattle.text.specs.Text.{decimal, lines}

-- the bytes of a word
unfoldable pub word : String → List ℕ
word S.[] = []
word (S.◌∷◌ c s) = code c ∷ word s

-- a word and a number
abbrev pub item : String → ℕ → List ℕ
item w n = word w ++ decimal n

-- ---- a refusal is one line: its number, and a place and a loop's length where there are any

unfoldable pub places : List ℕ → List ℕ
places [] = []
places (p ∷ []) = item " at " p
places (p ∷ l ∷ more) = item " at " p ++ item " length " l

abbrev pub refusal : ℕ → List ℕ → List ℕ
refusal n values = item "refused " n ++ places values ++ word "\n"

-- ---- done: the shape, the counts by row, and the totals

abbrev pub shape_line : (rows cols : ℕ) → List ℕ
shape_line rows cols = item "rows " rows ++ item " cols " cols ++ word "\n"

abbrev pub totals_line : (land outlets greatest : ℕ) → List ℕ
totals_line land outlets greatest = item "land " land ++ (item " outlets " outlets ++ item " greatest " greatest) ++ word "\n"

abbrev pub done : (rows cols : ℕ) (counts : List ℕ) (land outlets greatest : ℕ) → List ℕ
done rows cols counts land outlets greatest = shape_line rows cols ++ lines rows cols counts ++ totals_line land outlets greatest
