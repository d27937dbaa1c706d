-- The text that the count program reads (paper 01, "The count program"): numbers, lines, proper texts, and where a text stops being one.
-- A text is a list of bytes; the byte of '0' is 48, of a space 32, of a newline 10.
-- Assumes nothing.
use Rattle.std.specs.Prelude.{cond, List, [], ◌∷◌, ◌++◌, ◌≡◌, ℕ, zero, suc, ◌+◌, ◌*◌, ◌/◌, ◌%◌, ◌<◌, ◌≤◌, ltb, length, take, drop, get_or}

-- ---- numbers and lines

-- the decimal digits of n, none needless; `enough` bounds how many there are
-- (what a `let` binds is computed only where it is asked for, so that a large bound costs nothing)
unfoldable pub digits : (enough n : ℕ) → List ℕ
digits zero n = []
digits (suc enough) n =
    let longer : List ℕ = digits enough (n / 10) ++ ((48 + n % 10) ∷ []) in
    cond (ltb n 10) ((48 + n) ∷ []) longer

unfoldable pub decimal : ℕ → List ℕ
decimal n = digits (suc n) n

-- a line: one space between numbers, and a newline after them
unfoldable pub line : List ℕ → List ℕ
line [] = 10 ∷ []
line (x ∷ []) = decimal x ++ 10 ∷ []
line (x ∷ y ∷ ys) = decimal x ++ 32 ∷ line (y ∷ ys)

-- one line per row
unfoldable pub lines : (rows cols : ℕ) → List ℕ → List ℕ
lines zero cols xs = []
lines (suc rows) cols xs = line (take cols xs) ++ lines rows cols (drop cols xs)

-- ---- proper texts

-- each of the numbers has `P`
abbrev pub Each : (ℕ → Type 0) → List ℕ → Type 0
Each P [] = Unit {0}
Each P (x ∷ xs) = P x × Each P xs

-- a number that a text may hold: the decimals of 0 to 9999 are, by theorem numeral, the runs of bytes that the paper describes, `Numeral`
abbrev pub Short : ℕ → Type 0
Short n = n ≤ 9999

-- a byte that is a decimal digit
pub record Digit (b : ℕ) : Type 0 where
  pub low : 48 ≤ b
  pub high : b ≤ 57

-- a number has 1 to 4 digits, no needless leading zero
pub record Numeral (s : List ℕ) : Type 0 where
  pub all_digits : Each Digit s
  pub some : 1 ≤ length s
  pub most : length s ≤ 4
  pub no_needless_zero : get_or s 0 0 ≡ 48 → length s ≡ 1

-- the text begins with a line of rows and columns, and then comes `rest`
pub record Opens (rows cols : ℕ) (rest text : List ℕ) : Type 0 where
  pub rows_short : Short rows
  pub cols_short : Short cols
  pub reads : text ≡ line (rows ∷ cols ∷ []) ++ rest

-- the text holds these codes: a line of rows and columns, then one line per row, nothing else
pub record Holds (rows cols : ℕ) (codes text : List ℕ) : Type 0 where
  pub opens : Opens rows cols (lines rows cols codes) text
  pub codes_short : Each Short codes
  pub codes_long : length codes ≡ rows * cols

-- what a first line gives
pub record Sides : Type 0 where
  pub rows : ℕ
  pub cols : ℕ

-- the text's first line is proper and gives these sides
abbrev pub FirstLine : List ℕ → Sides → Type 0
FirstLine text sides = (rest : List ℕ) × Opens sides.rows sides.cols rest text

-- a proper text, of any sides: those outside the bounds are a refusal of their own
abbrev pub Proper : List ℕ → Type 0
Proper text = (sides : Sides) × (codes : List ℕ) × Holds sides.rows sides.cols codes text

-- ---- where a text stops being one

-- some good text begins with `start`
abbrev pub GoesOn : (List ℕ → Type 0) → List ℕ → Type 0
GoesOn Good start = (more : List ℕ) × Good (start ++ more)

-- the text is not good, and k is the first byte at which no good text can go on, or the length if it stops early
pub record StopsAt (Good : List ℕ → Type 0) (text : List ℕ) (k : ℕ) : Type 0 where
  pub inside : k ≤ length text
  pub before : GoesOn Good (take k text)
  pub here : k < length text → GoesOn Good (take (k + 1) text) → ⊥
  pub whole : Good text → ⊥

-- the first line is malformed, and k is that byte
abbrev pub NoFirstLine : List ℕ → ℕ → Type 0
NoFirstLine text k = ((sides : Sides) → FirstLine text sides → ⊥) × StopsAt Proper text k
