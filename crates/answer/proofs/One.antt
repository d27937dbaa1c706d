-- The promise of the count program admits one outcome only: the same bytes, and the same contents of every lent buffer.
-- Assumes nothing.
use mathlib.Core.List.{List}
use mathlib.Core.Path.{◌≡◌, sym, ap, ◌∙◌}
use Prim.Native.Nat.{ℕ, ◌+◌, ◌*◌}
use lib.ListN.{length}
use lib.Seq.{ext_get_or}
use Rattle.promise.specs.Links.{AtMostOne}
use Rattle.promise.proofs.One.{is_one, unless_one_met, unless_all_one, unless_some_one, given_one}
use Rattle.sheet.proofs.Passes.{sheet_counts_unique}
use Rattle.sheet.proofs.Unique.{loop_one}
use Rattle.text.specs.Text.{Proper, NoFirstLine}
use Rattle.text.proofs.Single.{stops_one, first_line_one, holds_one}
use Rattle.answer.specs.Answer.{Told, AnswerPromise, Answers}
use Rattle.sheet.specs.Sheet.{CountsOf}

counts_of_one : (rows cols : ℕ) (codes : List ℕ) → length codes ≡ rows * cols → AtMostOne (CountsOf rows cols codes)
counts_of_one rows cols codes long c d a b =
    ext_get_or 0 c d (a.long ∙ sym b.long) (λ p l. sheet_counts_unique rows cols codes long c d a.equation b.equation p (rw a.long at l))

told_one : (rows cols : ℕ) (codes : List ℕ) → length codes ≡ rows * cols → AtMostOne (Told rows cols codes)
told_one rows cols codes long = unless_all_one (unless_some_one (loop_one rows cols codes) (given_one (counts_of_one rows cols codes long) (λ counts h. is_one _)))

no_first_line_one : (text : List ℕ) → AtMostOne (NoFirstLine text)
no_first_line_one text j k a b = stops_one Proper text j k a.1 b.1

-- ONE ANSWER: for every text the promise admits one string of bytes
pub answer_one : (text : List ℕ) → AtMostOne (AnswerPromise text)
answer_one text = unless_some_one (no_first_line_one text) (given_one (first_line_one text) (λ s o.
    unless_one_met (λ w. unless_some_one (stops_one Proper text)
    (given_one (holds_one w.some_col) (λ codes h. told_one s.rows s.cols codes h.codes_long)))))

-- and the answered number and all that the lent buffers hold are settled too
module _ (text grid counts out : List ℕ) (g h c d o p : List ℕ) (m n : ℕ) where
  pub answers_one : Answers text grid counts out g c o m → Answers text grid counts out h d p n → (m ≡ n) × (g ≡ h) × (c ≡ d) × (o ≡ p)
  answers_one x y =
      let same = answer_one text x.said y.said x.promised y.promised in
      let far : m ≡ n = x.written.next_is ∙ ap (λ (s : List ℕ). 0 + length s) same ∙ sym y.written.next_is in
      (far, x.grid_cleared ∙ sym y.grid_cleared, x.counts_cleared ∙ sym y.counts_cleared, x.written.out_is ∙ rw (same, far) (sym y.written.out_is))
