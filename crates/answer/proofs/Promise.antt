-- From what reading a text and counting its codes answer, to the promise of the count program.
-- Assumes nothing.
use mathlib.Core.List.{List, [], ◌∷◌, map}
use mathlib.Core.Logic.{inl, inr}
use mathlib.Core.Path.{◌≡◌, refl, ap, ◌∙◌}
use Prim.Native.Nat.{ℕ, suc, ◌+◌, ◌*◌, ◌^◌, ◌<◌}
use native.Mathlib.Omega.{arith}
use lib.ListN.{length, take, drop, get_or, length-map, get_or-eq_default}
use lib.Seq.{take_at}
use Rattle.promise.specs.Links.UnlessAll.{refused_at, met_all}
use Rattle.promise.specs.Links.Unless.{refused, met}
use Rattle.promise.specs.Links.UnlessSome.{refused_with, met_none}
use Rattle.promise.specs.Links.Given.{given}
use Rattle.promise.specs.Reply.Reply.{reply}
use Rattle.promise.proofs.Apart.{unless_ok}
use Rattle.flow.specs.Net.{on}
use Rattle.flow.proofs.Bound.{on_le}
use Rattle.flow.proofs.Sum.{sum_mono, sum_ones}
use Rattle.sheet.specs.Shape.{SheetShape}
use Rattle.sheet.specs.Sheet.{SheetCounts, passes}
use Rattle.sheet.proofs.Passes.{count_is_passing}
use Rattle.count.specs.Count.{CountPromise, CountCells, CountOutcome, ends}
use Rattle.text.specs.Text.{lines, Sides, FirstLine, Proper, StopsAt}
use Rattle.text.specs.Read.{Parses, kept}
use Rattle.text.specs.declared.TextError.TheVariants as E
use Rattle.text.proofs.Begin.{area}
use Rattle.std.proofs.lemmas.Bool.{cases_lt}
use Rattle.text.proofs.Proper.{sides}
use Rattle.show.specs.Show.{refusal}
use Rattle.show.proofs.Long.{lines_most}
use Rattle.std.specs.Prelude.{Ok, Err}
use Rattle.sheet.specs.declared.shape.Shape.{Shape}
use Rattle.writer.specs.declared.Writer.{Writer}
use Rattle.writer.specs.Parts.{Room, Writes}
use Rattle.answer.specs.Answer.{Told}
use Rattle.answer.specs.Parts.{shown, Lent, Tells, TellsText}
use Rattle.answer.proofs.Kept.{kept_told}

-- ---- counting

module _ (s : Shape 64) (grid counts : List ℕ) (to : Writer) (lent : Lent s grid counts to) where
  abbrev rows : ℕ
  rows = s.rows

  abbrev cols : ℕ
  cols = s.cols

  shape : SheetShape rows cols
  shape =
      let w = s.bounds in
      record { some_row = w.some_row; rows_most = omega (arith, w.rows_most); some_col = w.some_col; cols_most = omega (arith, w.cols_most) }

  -- 1 and 2 are passed
  cells : (e : CountOutcome) → CountPromise rows cols grid counts e → CountCells rows cols grid counts e
  cells e p = unless_ok (unless_ok p shape) (record { grid_long = lent.grid_long; counts_long = lent.counts_long })

  shows : (e : CountOutcome) → CountCells rows cols grid counts e → Told rows cols grid (shown rows cols e.counts e.said)
  unfolding shown
  shows e (refused_at p f is) = refused_at p f (ap (λ (x : CountOutcome). shown rows cols x.counts x.said) is)
  shows e (met_all a (refused_with v l is)) = met_all a (refused_with v l (ap (λ (x : CountOutcome). shown rows cols x.counts x.said) is))
  shows e (met_all a (met_none n d)) =
      met_all a (met_none n (given e.counts (record { long = d.long; equation = d.equation }) (ap (shown rows cols e.counts) d.said_is)))

  -- an answer of counting, as it is written, is what is to be told
  pub told : (e : CountOutcome) → CountPromise rows cols grid counts e → Told rows cols grid (shown rows cols e.counts e.said)
  told e p = shows e (cells e p)

  -- no count exceeds the number of cells
  count_most : (c : List ℕ) → SheetCounts rows cols grid c → length c ≡ rows * cols → (i : ℕ) → get_or c i 0 < 10 ^ suc 3
  count_most c eq long i = elim (cases_lt i (rows * cols)) [
    | inl l ↦
        omega (
          arith,
          count_is_passing rows cols grid lent.grid_long c eq i l,
          sum_mono {n = rows * cols} {f = λ q. on (passes rows cols grid i q) 1} {g = λ q. 1} (λ q lq. on_le (passes rows cols grid i q) 1),
          sum_ones (rows * cols),
          area {n = 4096} s.bounds.rows_most s.bounds.cols_most (omega arith),
        )
    | inr l ↦ omega (arith, get_or-eq_default c 0 {n = i} (omega arith))
  ]

  counted_room : (e : CountOutcome) (land exits most : ℕ) → e.said ≡ reply 0 (land ∷ exits ∷ most ∷ []) → CountCells rows cols grid counts e
      → (length e.counts ≡ rows * cols) × Room (200 + length (lines rows cols e.counts)) to
  counted_room e land exits most is (refused_at p f is') = absurd (let z : ◌≡◌ {A = ℕ} 0 1 = cc in omega arith)
  counted_room e land exits most is (met_all a (refused_with v l is')) = absurd (let z : ◌≡◌ {A = ℕ} 0 1 = cc in omega arith)
  counted_room e land exits most is (met_all a (met_none n d)) =
      (d.long, omega (arith, lines_most 3 rows cols e.counts s.bounds.some_col d.long (count_most e.counts d.equation d.long), lent.room))

  -- where counting is done there is room for its counts
  pub done_room : (after : List ℕ) (land exits most : ℕ) → CountPromise rows cols grid counts (ends (reply 0 (land ∷ exits ∷ most ∷ [])) after)
      → (length after ≡ rows * cols) × Room (200 + length (lines rows cols after)) to
  done_room after land exits most p = counted_room (ends (reply 0 (land ∷ exits ∷ most ∷ [])) after) land exits most refl (cells _ p)

-- ---- the whole text

-- a text with a first line does not stop in it
opened : (text : List ℕ) (v : Sides) → FirstLine text v → (k : ℕ) → ((s : Sides) → FirstLine text s → ⊥) × StopsAt Proper text k → ⊥
opened text v o k n = n.0 v o

module _ (text before after : List ℕ) {x y : Writer} where
  pub tells_malformed : (k : ℕ) → Parses text before after (Err (E.Malformed k)) → Writes (refusal 11 (k ∷ [])) x y → TellsText text x y
  tells_malformed k (inl s) w = (refusal 11 (k ∷ []), refused_with k s refl, w)
  tells_malformed k (inr m) w =
      (refusal 11 (k ∷ []), met_none (opened text m.0 m.2) (given m.0 m.2 (met m.1 (refused_with k m.3 refl))), w)

  pub tells_shape : Parses text before after (Err E.Shape) → Writes (refusal 1 []) x y → TellsText text x y
  tells_shape m w = (refusal 1 [], met_none (opened text m.0 m.1) (given m.0 m.1 (refused m.2 refl)), w)

  module _ (s : Shape 64) (m : Parses text before after (Ok s)) where
    pub tells_grid : (grid : List ℕ) → grid ≡ take (s.rows * s.cols) after → Tells s.rows s.cols grid x y → TellsText text x y
    tells_grid grid eg t =
        let h = m.2 in
        let v : Sides = sides s.rows s.cols in
        let first : FirstLine text v = (lines s.rows s.cols m.0, h.opens) in
        let long : length (map kept m.0) ≡ s.rows * s.cols = length-map m.0 kept ∙ h.codes_long in
        let codes : grid ≡ map kept m.0 = eg ∙ ap (λ (l : List ℕ). take (s.rows * s.cols) l) m.3 ∙ take_at (map kept m.0) (drop (s.rows * s.cols) before) (s.rows * s.cols) long in
        let said : Told s.rows s.cols m.0 t.0 = kept_told m.0 s.rows s.cols t.0 h.codes_long (rw codes at t.1) in (
          t.0,
          met_none (opened text v first) (given v first (met m.1 (met_none (λ k stop. stop.whole (v, m.0, h)) (given m.0 h said)))),
          t.2,
        )
