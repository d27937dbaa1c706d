-- The paper's own lines, as the definitions compute them.
-- Assumes nothing.
use mathlib.Core.List.{[], ◌∷◌}
use mathlib.Core.Path.{◌≡◌, refl}
use Rattle.text.specs.Text.{digits, decimal, line, lines}
use Rattle.show.specs.Show.{word, refusal, places, done}

-- the whole output of case H
pub case_h : done 3 3 (1 ∷ 1 ∷ 1 ∷ 1 ∷ 8 ∷ 1 ∷ 1 ∷ 9 ∷ 1 ∷ []) 9 1 9 ≡ word "rows 3 cols 3\n1 1 1\n1 8 1\n1 9 1\nland 9 outlets 1 greatest 9\n"
unfolding word decimal line lines digits
case_h = refl

pub case_no_place : refusal 1 [] ≡ word "refused 1\n"
unfolding word decimal places digits
case_no_place = refl

pub case_place : refusal 3 (2 ∷ []) ≡ word "refused 3 at 2\n"
unfolding word decimal places digits
case_place = refl

pub case_loop : refusal 4 (2 ∷ 2 ∷ []) ≡ word "refused 4 at 2 length 2\n"
unfolding word decimal places digits
case_loop = refl

-- the greatest number that a count can hold
pub case_most : decimal 4294967295 ≡ word "4294967295"
unfolding word decimal digits
case_most = refl
