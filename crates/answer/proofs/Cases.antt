-- CASE H, the program's own text: the promise admits the paper's whole output, and by answer_one no other.
-- Assumes nothing.
use mathlib.Core.List.{List, [], ◌∷◌}
use mathlib.Core.Path.{refl}
use Prim.Native.Nat.{ℕ, ◌<◌}
use native.Mathlib.Omega.{arith}
use Rattle.promise.specs.Links.Unless.{met}
use Rattle.promise.specs.Links.UnlessAll.{met_all}
use Rattle.promise.specs.Links.UnlessSome.{met_none}
use Rattle.promise.specs.Links.Given.{given}
use Rattle.flow.specs.Net.{sum, steps, down_in, downb}
use Rattle.flow.specs.Net as net
use Rattle.flow.proofs.Loop.{first_loop_free}
use Rattle.flow.proofs.Test.{allb, allb_says, countsb, countsb_iff, no_loopb, no_loopb_iff, on_loopb}
use Rattle.sheet.specs.Compass.{line_of, is_arrow, is_absent, is_code, step_of}
use Rattle.sheet.specs.Sheet.{land_at, step_from, dest_of, outlet_at, code_at, count_at, unit, CodeOk, SheetCounts, SheetNoLoop}
use Rattle.sheet.specs.Totals.{greatest_below}
use Rattle.sheet.proofs.Dest.{dest_beyond}
use Rattle.text.specs.Text.{digits, decimal, line, lines, Holds}
use Rattle.text.proofs.Proper.{sides}
use Rattle.show.specs.Show.{word}
use Rattle.answer.specs.Answer.{Told, AnswerPromise}

abbrev codes : List ℕ
codes =
    2 ∷ 4 ∷ 8 ∷
    1 ∷ 4 ∷ 16 ∷
    128 ∷ 4 ∷ 32 ∷ []

abbrev counts : List ℕ
counts =
    1 ∷ 1 ∷ 1 ∷
    1 ∷ 8 ∷ 1 ∷
    1 ∷ 9 ∷ 1 ∷ []

abbrev text_h : List ℕ
text_h = word "3 3\n2 4 8\n1 4 16\n128 4 32\n"

abbrev said_h : List ℕ
said_h = word "rows 3 cols 3\n1 1 1\n1 8 1\n1 9 1\nland 9 outlets 1 greatest 9\n"

holds_h : Holds 3 3 codes text_h
unfolding word decimal line lines digits
holds_h = record {
  opens = record { rows_short = omega arith; cols_short = omega arith; reads = refl };
  codes_short = omega arith;
  codes_long = refl;
}

codes_h : (p : ℕ) → p < 9 → CodeOk codes p
unfolding allb is_code is_arrow is_absent line_of
codes_h = allb_says 9 (λ p. is_code (code_at codes p)) refl

no_loop_h : SheetNoLoop 3 3 codes
unfolding no_loopb on_loopb allb down_in downb steps line_of is_arrow step_of land_at step_from dest_of
no_loop_h = (no_loopb_iff 9 (dest_of 3 3 codes) (dest_beyond 3 3 codes refl)).0 refl

counts_h : SheetCounts 3 3 codes counts
unfolding countsb allb sum net.given line_of is_arrow step_of land_at step_from dest_of
counts_h = (countsb_iff 9 (dest_of 3 3 codes) (unit codes) (count_at counts)).0 refl

told_h : Told 3 3 codes said_h
unfolding word decimal line lines digits sum line_of is_arrow step_of land_at step_from dest_of outlet_at greatest_below
told_h = met_all codes_h (met_none (λ v l. first_loop_free no_loop_h l) (given counts (record { long = refl; equation = counts_h }) refl))

pub case_h : AnswerPromise text_h said_h
case_h =
    met_none (λ k n. n.0 (sides 3 3) (lines 3 3 codes, holds_h.opens))
    (given (sides 3 3) (lines 3 3 codes, holds_h.opens)
    (met (record { some_row = omega arith; rows_most = omega arith; some_col = omega arith; cols_most = omega arith })
    (met_none (λ k s. s.whole (sides 3 3, codes, holds_h)) (given codes holds_h told_h))))
