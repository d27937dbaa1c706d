-- The compass table of paper 01, and what a code means.
-- Assumes nothing.
use Rattle.std.specs.Prelude.{Bool, cond, ◌||◌, List, [], ◌∷◌, ℕ, suc, eqb, ltb, ℤ, pos, negsuc, get_or}
use Rattle.sheet.specs.declared.compass.Step.{Step}
use Rattle.sheet.specs.declared.compass.Meaning.{Meaning}
use Rattle.sheet.specs.declared.compass.Meaning.TheVariants.{Arrow, Absent, Bad}

-- the numbers of the table, with their signs
abbrev o : ℤ
o = pos 0

abbrev +1 : ℤ
+1 = pos 1

abbrev -1 : ℤ
-1 = negsuc 0

-- a line of the table: code, row, column
abbrev pub go : ℕ → ℤ → ℤ → Step
go k r c = record { 0 = k; 1 = r; 2 = c }

-- the table: east first, clockwise
abbrev pub compass : List Step
compass =
    go 1 o +1 ∷  -- east
    go 2 +1 +1 ∷  -- south-east
    go 4 +1 o ∷  -- south
    go 8 +1 -1 ∷  -- south-west
    go 16 o -1 ∷  -- west
    go 32 -1 -1 ∷  -- north-west
    go 64 -1 o ∷  -- north
    go 128 -1 +1 ∷  -- north-east
    []

-- line k of the table, from 0; past its end no step
abbrev pub step_at : ℕ → Step
step_at k = get_or compass k (go 0 o o)

-- the number of the first line that has the code x, or the number of lines where none has it
abbrev pub find_code : List Step → ℕ → ℕ
find_code [] x = 0
find_code (s ∷ l) x = cond (eqb s.0 x) 0 (suc (find_code l x))

-- the number of a code's line in the table, or 8 where the code is no arrow
unfoldable pub line_of : ℕ → ℕ
line_of x = find_code compass x

-- a code is an arrow
unfoldable pub is_arrow : ℕ → Bool
is_arrow x = ltb (line_of x) 8

-- a code marks an absent cell
unfoldable pub is_absent : ℕ → Bool
is_absent x = eqb x 0 || eqb x 255

-- a code is an arrow or marks an absent cell; every other number is a bad code
unfoldable pub is_code : ℕ → Bool
is_code x = is_arrow x || is_absent x

-- the step of an arrow
unfoldable pub step_of : ℕ → Step
step_of x = step_at (line_of x)

-- what a code means
unfoldable pub meaning_of : ℕ → Meaning
meaning_of x = cond (is_arrow x) (Arrow (step_of x)) (cond (is_absent x) Absent Bad)
