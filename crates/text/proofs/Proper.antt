-- The paper's sentence on 11: no proper text at all, of any sides, goes on at the byte where the first line stops, or what follows it.
-- Last, from what reading the parts of a text answers to what reading a whole text does.
-- Assumes nothing.
use Prim.Native.Nat.{ℕ, ◌+◌, ◌*◌, ◌≤◌}
use mathlib.Core.Path.{◌≡◌, sym, ap, ◌∙◌, subst₂}
use mathlib.Core.List.{List, [], ◌∷◌, ◌++◌, append_assoc}
use mathlib.Core.Logic.{inl, inr}
use native.Mathlib.Omega.{arith}
use lib.ListN.{length, replicate, length-replicate, take, drop, take-append-drop}
use lib.Seq.{take-append-le, take-append_seam}
use Rattle.std.specs.Prelude.{Err}
use Rattle.sheet.specs.Shape.{Within}
use Rattle.sheet.specs.declared.shape.Shape.{Shape}
use Rattle.text.specs.Text.{line, lines, Short, Opens, Sides, FirstLine, Proper, GoesOn, StopsAt}
use Rattle.text.specs.Read.{Opening, ProperOf, ReadsFirst, ReadsBody, Parses}
use Rattle.text.specs.declared.Malformed.{Malformed}
use Rattle.text.specs.declared.TextError.TheVariants as E
use Rattle.text.proofs.Flat.{zeros_short}
use Rattle.std.proofs.lemmas.Bool.{cases_lt}
use Rattle.text.proofs.Begin.{opens_one, after_first}

abbrev pub sides : (rows cols : ℕ) → Sides
sides rows cols = record { rows = rows; cols = cols }

-- of two fronts of one list the shorter is a front of the longer
pub front : (p more d rest : List ℕ) → p ++ more ≡ d ++ rest → length d ≤ length p → d ++ drop (length d) p ≡ p
front p more d rest e l =
    let same : take (length d) p ≡ d = sym (take-append-le (length d) p more l) ∙ ap (λ (s : List ℕ). take (length d) s) e ∙ take-append_seam d rest in
    rw same at (take-append-drop (length d) p)

-- a front of a first line goes on to a proper text of its sides
line_goes_on : (rows cols : ℕ) (p more rest : List ℕ) → Short rows → Short cols → p ++ more ≡ line (rows ∷ cols ∷ []) ++ rest
    → length p ≤ length (line (rows ∷ cols ∷ [])) → GoesOn (ProperOf rows cols) p
line_goes_on rows cols p more rest hr hc e l =
    let d : List ℕ = line (rows ∷ cols ∷ []) in
    let codes : List ℕ = replicate (rows * cols) 0 in
    let whole : p ++ drop (length p) d ≡ d = front d rest p more (sym e) l in
    let all : p ++ (drop (length p) d ++ lines rows cols codes) ≡ d ++ lines rows cols codes = sym (append_assoc p (drop (length p) d) (lines rows cols codes)) ∙ ap (λ (s : List ℕ). s ++ lines rows cols codes) whole in (
      drop (length p) d ++ lines rows cols codes,
      (
        codes,
        record {
          opens = record { rows_short = hr; cols_short = hc; reads = all };
          codes_short = zeros_short (rows * cols);
          codes_long = length-replicate (rows * cols) 0;
        },
      ),
    )

proper_opens : (s : List ℕ) → Proper s → Opening s
proper_opens s p = (p.0.rows, p.0.cols, lines p.0.rows p.0.cols p.1, p.2.opens)

-- where no text with a proper first line can go on, no proper text can
pub first_stops : (text : List ℕ) (k : ℕ) → StopsAt Opening text k → StopsAt Proper text k
first_stops text k h =
    let g = h.before.1 in
    let d : List ℕ = line (g.0 ∷ g.1 ∷ []) in
    let short : length (take k text) ≤ length d = elim (cases_lt (length d) (length (take k text))) [
      | inl l ↦
          let p = front (take k text) h.before.0 d g.2 g.3.reads (omega arith) in
          absurd (h.whole (
            g.0,
            g.1,
            drop (length d) (take k text) ++ drop k text,
            record {
              rows_short = g.3.rows_short;
              cols_short = g.3.cols_short;
              reads = sym (sym (append_assoc d (drop (length d) (take k text)) (drop k text)) ∙ ap (λ (s : List ℕ). s ++ drop k text) p ∙ take-append-drop k text);
            },
          ))
      | inr l ↦ l
    ] in
    let on = line_goes_on g.0 g.1 (take k text) h.before.0 g.2 g.3.rows_short g.3.cols_short g.3.reads short in
    record {
      inside = h.inside;
      before = (on.0, (sides g.0 g.1, on.1.0, on.1.1));
      here = λ l m. h.here l (m.0, proper_opens _ m.1);
      whole = λ a. h.whole (proper_opens text a);
    }

-- a proper text that begins as this one does, past its first line, is of its sides
same_sides : (rows cols : ℕ) (rest text more : List ℕ) (k : ℕ) → Opens rows cols rest text → length (line (rows ∷ cols ∷ [])) ≤ length (take k text)
    → Proper (take k text ++ more) → ProperOf rows cols (take k text ++ more)
same_sides rows cols rest text more k o l a =
    let d : List ℕ = line (rows ∷ cols ∷ []) in
    let p = front (take k text) (drop k text) d rest (take-append-drop k text ∙ o.reads) l in
    let mine : Opens rows cols (drop (length d) (take k text) ++ more) (take k text ++ more) = record {
      rows_short = o.rows_short;
      cols_short = o.cols_short;
      reads = sym (sym (append_assoc d (drop (length d) (take k text)) more) ∙ ap (λ (s : List ℕ). s ++ more) p);
    } in
    let same = opens_one a.2.opens mine in
    subst₂ (λ r c. ProperOf r c (take k text ++ more)) same.0 same.1 (a.1, a.2)

-- where no proper text of the sides that the first line gives can go on, no proper text can
pub body_stops : (rows cols : ℕ) (rest text : List ℕ) (k : ℕ) → Opens rows cols rest text → StopsAt (ProperOf rows cols) text k → StopsAt Proper text k
body_stops rows cols rest text k o h = record {
  inside = h.inside;
  before = (h.before.0, (sides rows cols, h.before.1.0, h.before.1.1));
  here = λ l m. h.here l (elim (cases_lt (length (take (k + 1) text)) (length (line (rows ∷ cols ∷ [])))) [
    | inl s ↦ line_goes_on rows cols (take (k + 1) text) (drop (k + 1) text) rest o.rows_short o.cols_short (take-append-drop (k + 1) text ∙ o.reads) (omega arith)
    | inr s ↦ (m.0, same_sides rows cols rest text m.0 (k + 1) o s m.1)
  ]);
  whole = λ a.
      let same = opens_one a.2.opens o in
      h.whole (subst₂ (λ r c. ProperOf r c text) same.0 same.1 (a.1, a.2));
}

-- ---- reading a whole text

module _ (text before after : List ℕ) where
  pub parse_bad : (stop : Malformed) → ReadsFirst text (Err stop) → Parses text before after (Err (E.Malformed stop.at))
  parse_bad stop s = inl (λ v o. s.whole (v.rows, v.cols, o.0, o.1), first_stops text stop.at s)

  module _ (rows cols next : ℕ) (read : (next ≤ length text) × Opens rows cols (drop next text) text) where
    opened : FirstLine text (sides rows cols)
    opened = (drop next text, read.1)

    pub parse_shape : (Within 64 rows cols → ⊥) → Parses text before after (Err E.Shape)
    parse_shape out = (sides rows cols, opened, out)

  module _ (shape : Shape 64) (next : ℕ) (read : (next ≤ length text) × Opens shape.rows shape.cols (drop next text) text) where
    pub parse_broken : (stop : Malformed) → ReadsBody shape.rows shape.cols (drop next text) before after (Err stop) → Parses text before after (Err (E.Malformed (next + stop.at)))
    parse_broken stop s =
        inr (sides shape.rows shape.cols, shape.bounds, opened shape.rows shape.cols next read, body_stops _ _ (drop next text) text (next + stop.at) read.1 (after_first text _ _ next stop.at read.1 read.0 s))
