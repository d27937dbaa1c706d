-- The first 20,487 bytes of a text decide: what is promised of them is promised of the whole text.
-- Assumes nothing.
use mathlib.Core.List.{List, [], ◌∷◌, ◌++◌, append_assoc}
use mathlib.Core.Logic.{inl, inr}
use mathlib.Core.Path.{◌≡◌, sym, ap, ◌∙◌}
use Prim.Native.Nat.{ℕ, ◌+◌, ◌*◌, ◌-◌, ◌<◌, ◌≤◌}
use native.Mathlib.Omega.{arith}
use lib.ListN.{length, take, drop, length-append, take-append-drop}
use lib.Seq.{length-take-le, take-take, take_all}
use Rattle.promise.specs.Links.Unless.{refused, met}
use Rattle.promise.specs.Links.UnlessSome.{refused_with, met_none}
use Rattle.promise.specs.Links.Given.{given}
use Rattle.sheet.specs.Shape.{Within}
use Rattle.text.specs.Text.{decimal, line, lines, Each, Short, Opens, Holds, Sides, FirstLine, NoFirstLine, Proper, GoesOn, StopsAt}
use Rattle.std.proofs.lemmas.Bool.{cases_lt}
use Rattle.text.specs.Read.{end_of}
use Rattle.text.proofs.Begin.{area, two, opens_one}
use Rattle.text.proofs.Decimal.{decimal_most}
use Rattle.text.proofs.Flat.{turn, flat, flat_cons, flat_nil, flat_rows}
use Rattle.text.proofs.Proper.{front}
use Rattle.answer.specs.Answer.{AnswerPromise}

-- ---- how long lines and proper texts are

flat_short : (c right : ℕ) (xs : List ℕ) → Each Short xs → length (flat c right xs) ≤ 5 * length xs
flat_short c right [] a = rw (flat_nil c right) (omega arith)
flat_short c right (x ∷ xs) a =
    rw (flat_cons c right x xs) (omega (
      arith,
      length-append (decimal x) (end_of right ∷ flat c (turn c right) xs),
      flat_short c (turn c right) xs a.1,
      decimal_most 3 x (omega (arith, a.0)),
    ))

line_long : (rows cols : ℕ) → length (line (rows ∷ cols ∷ [])) ≡ length (decimal rows) + length (decimal cols) + 2
line_long rows cols =
    omega (
      arith,
      length-append (line (rows ∷ cols ∷ [])) [],
      ap length (two rows cols []),
      length-append (decimal rows) (32 ∷ (decimal cols ++ 10 ∷ [])),
      length-append (decimal cols) (10 ∷ []),
    )

-- no first line has more than 10 bytes
line_short : (rows cols : ℕ) → Short rows → Short cols → length (line (rows ∷ cols ∷ [])) ≤ 10
line_short rows cols hr hc = omega (arith, line_long rows cols, decimal_most 3 rows (omega arith), decimal_most 3 cols (omega arith))

-- no proper text of sides within bounds has more than 20,486 bytes
pub holds_long : (rows cols : ℕ) (codes text : List ℕ) → Within 64 rows cols → Holds rows cols codes text → length text ≤ 20486
holds_long rows cols codes text w h =
    let body : length (lines rows cols codes) ≤ 5 * (rows * cols) = omega (
      arith,
      ap length (flat_rows rows cols codes w.some_col h.codes_long),
      flat_short (cols - 1) (cols - 1) codes h.codes_short,
      h.codes_long,
    ) in
    omega (
      arith,
      ap length h.opens.reads,
      length-append (line (rows ∷ cols ∷ [])) (lines rows cols codes),
      line_long rows cols,
      body,
      area {n = 4096} w.rows_most w.cols_most (omega arith),
      decimal_most 1 rows (omega (arith, w.rows_most)),
      decimal_most 1 cols (omega (arith, w.cols_most)),
    )

-- ---- a front that is long has the text's first line

-- what is long and goes on to a text with a first line has that line
long_opens : (p more rest : List ℕ) (rows cols : ℕ) → 10 ≤ length p → Opens rows cols rest (p ++ more) → Opens rows cols (drop (length (line (rows ∷ cols ∷ []))) p) p
long_opens p more rest rows cols l o = record {
  rows_short = o.rows_short;
  cols_short = o.cols_short;
  reads = sym (front p more (line (rows ∷ cols ∷ [])) rest o.reads (omega (arith, line_short rows cols o.rows_short o.cols_short)));
}

module _ (text : List ℕ) (long : 20487 ≤ length text) where
  abbrev seen : List ℕ
  seen = take 20487 text

  seen_long : length seen ≡ 20487
  seen_long = length-take-le 20487 text long

  -- a stop before the end of the front is a stop of the whole
  stops_whole : (P : List ℕ → Type 0) (k : ℕ) → k < 20487 → StopsAt P seen k → StopsAt P text k
  stops_whole P k l s =
      let next : take (k + 1) seen ≡ take (k + 1) text = take-take (k + 1) 20487 text (omega arith) in
      let stuck : GoesOn P (take (k + 1) text) → ⊥ = λ g. s.here (omega (arith, seen_long)) (rw next g) in
      record {
        inside = omega arith;
        before = rw (take-take k 20487 text (omega arith)) at s.before;
        here = λ m g. stuck g;
        whole = λ p. stuck (drop (k + 1) text, rw (take-append-drop (k + 1) text) p);
      }

  -- a first line of the front is one of the whole, and the other way round
  opens_whole : {rows cols : ℕ} {rest : List ℕ} → Opens rows cols rest seen → Opens rows cols (rest ++ drop 20487 text) text
  opens_whole {rows} {cols} {rest} o = record {
    rows_short = o.rows_short;
    cols_short = o.cols_short;
    reads = sym (take-append-drop 20487 text) ∙ ap (λ (s : List ℕ). s ++ drop 20487 text) o.reads ∙ append_assoc (line (rows ∷ cols ∷ [])) rest (drop 20487 text);
  }

  first_whole : (v : Sides) → FirstLine seen v → FirstLine text v
  first_whole v o = (o.0 ++ drop 20487 text, opens_whole o.1)

  first_seen : (v : Sides) → FirstLine text v → FirstLine seen v
  first_seen v o =
      let same : Opens v.rows v.cols o.0 (seen ++ drop 20487 text) = rw (take-append-drop 20487 text) o.1 in
      (drop (length (line (v.rows ∷ v.cols ∷ []))) seen, long_opens seen (drop 20487 text) o.0 v.rows v.cols (omega (arith, seen_long)) same)

  -- a front without a first line stops before its end
  first_early : (k : ℕ) → NoFirstLine seen k → k < 20487
  first_early k n = elim (cases_lt k 20487) [
    | inl l ↦ l
    | inr l ↦
        let all : take k seen ≡ seen = take_all k seen (omega (arith, seen_long)) in
        let more = n.1.before in
        let v = more.1.0 in
        let o : Opens v.rows v.cols (lines v.rows v.cols more.1.1) (seen ++ more.0) = rw all at more.1.2.opens in
        absurd (n.0 v (drop (length (line (v.rows ∷ v.cols ∷ []))) seen, long_opens seen more.0 _ v.rows v.cols (omega (arith, seen_long)) o))
  ]

  -- a front whose sides are within bounds stops before its end too: it is longer than any proper text of its sides
  body_early : (v : Sides) (k : ℕ) → Within 64 v.rows v.cols → FirstLine seen v → StopsAt Proper seen k → k < 20487
  body_early v k w o s = elim (cases_lt k 20487) [
    | inl l ↦ l
    | inr l ↦
        let all : take k seen ≡ seen = take_all k seen (omega (arith, seen_long)) in
        let more = s.before in
        let u = more.1.0 in
        let h : Holds u.rows u.cols more.1.1 (seen ++ more.0) = rw all at more.1.2 in
        let same = opens_one (long_opens seen more.0 _ u.rows u.cols (omega (arith, seen_long)) h.opens) o.1 in
        let w' : Within 64 u.rows u.cols = rw (same.0, same.1) w in
        absurd (omega (arith, holds_long u.rows u.cols more.1.1 (seen ++ more.0) w' h, length-append seen more.0, seen_long))
  ]

  front_says : (said : List ℕ) → AnswerPromise seen said → AnswerPromise text said
  front_says said (refused_with k n e) = refused_with k (λ v o. n.0 v (first_seen v o), stops_whole Proper k (first_early k n) n.1) e
  front_says said (met_none a (given v o (refused n e))) = met_none (λ k n. n.0 v (first_whole v o)) (given v (first_whole v o) (refused n e))
  front_says said (met_none a (given v o (met w (refused_with k s e)))) =
      met_none (λ k n. n.0 v (first_whole v o)) (given v (first_whole v o) (met w (refused_with k (stops_whole Proper k (body_early v k w o s) s) e)))
  front_says said (met_none a (given v o (met w (met_none b (given codes h c))))) =
      absurd (omega (arith, holds_long v.rows v.cols codes seen w h, seen_long))

-- THE FIRST 20,487 BYTES DECIDE: the answer to them is the answer to the whole text
pub front_decides : (text said : List ℕ) → AnswerPromise (take 20487 text) said → AnswerPromise text said
front_decides text said p = elim (cases_lt (length text) 20487) [
  | inl l ↦ let all : take 20487 text ≡ text = take_all 20487 text (omega arith) in rw all at p
  | inr l ↦ front_says text l said p
]
