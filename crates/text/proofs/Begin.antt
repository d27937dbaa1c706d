-- Laws of the first line, and of a body after it.
-- Assumes nothing.
use Prim.Native.Nat.{ℕ, ◌+◌, ◌*◌, ◌-◌, ◌≤◌}
use mathlib.Core.Path.{◌≡◌, refl, sym, ap, ◌∙◌}
use mathlib.Core.List.{List, [], ◌∷◌, ◌++◌, append_assoc, append_cancel_left}
use native.Mathlib.Nat.{mul-le-mul}
use native.Mathlib.Omega.{arith}
use lib.ListN.{length, drop, length-append, length-drop}
use Rattle.text.specs.Text.{decimal, line, lines, Short, Opens, StopsAt, Digit}
use Rattle.text.specs.Read.{Stuck, Opening, ProperOf, Rows}
use Rattle.text.proofs.Scan.{number_same}
use Rattle.text.proofs.Stops.{stuck_stops, stops_after}

space_apart : Digit 32 → ⊥
space_apart d = omega arith

newline_apart : Digit 10 → ⊥
newline_apart d = omega arith

-- a first line and what follows it, number by number
pub two : (rows cols : ℕ) (rest : List ℕ) → line (rows ∷ cols ∷ []) ++ rest ≡ decimal rows ++ 32 ∷ (decimal cols ++ 10 ∷ rest)
unfolding line
two rows cols rest = simp append_assoc

-- a text has one first line
pub opens_one : {rows cols rows' cols' : ℕ} {rest rest' text : List ℕ} → Opens rows cols rest text → Opens rows' cols' rest' text → (rows ≡ rows') × (cols ≡ cols') × (rest ≡ rest')
opens_one {rows} {cols} {rows'} {cols'} {rest} {rest'} a b =
    let e : decimal rows ++ 32 ∷ (decimal cols ++ 10 ∷ rest) ≡ decimal rows' ++ 32 ∷ (decimal cols' ++ 10 ∷ rest') = sym (a.reads ∙ two rows cols rest) ∙ (b.reads ∙ two rows' cols' rest') in
    let first = number_same 32 rows rows' (decimal cols ++ 10 ∷ rest) (decimal cols' ++ 10 ∷ rest') space_apart e in
    let second = number_same 10 cols cols' rest rest' newline_apart first.1 in
    (first.0, second.0, second.1)

pub opens_read : (text : List ℕ) (rows cols at next : ℕ) → Short rows → Short cols → text ≡ decimal rows ++ 32 ∷ drop at text
    → drop at text ≡ decimal cols ++ 10 ∷ drop next text → Opens rows cols (drop next text) text
opens_read text rows cols at next hr hc e f = record { rows_short = hr; cols_short = hc; reads = e ∙ ap (λ (s : List ℕ). decimal rows ++ 32 ∷ s) f ∙ sym (two rows cols (drop next text)) }

pub first_rows : (text : List ℕ) (k : ℕ) → Stuck 32 text (k - 0) → StopsAt Opening text k
first_rows text k s =
    stuck_stops Opening 32 [] space_apart
    (λ v short. (32 ∷ (decimal 0 ++ 10 ∷ []), (v, 0, [], record { rows_short = short; cols_short = omega arith; reads = sym (two v 0 []) })))
    (λ t h. (h.0, decimal h.1 ++ 10 ∷ h.2, h.3.rows_short, h.3.reads ∙ two h.0 h.1 h.2))
    text text (k - 0) k s refl (omega arith)

pub first_cols : (text : List ℕ) (rows at k : ℕ) → Short rows → at ≤ length text → text ≡ decimal rows ++ 32 ∷ drop at text → at ≤ k
    → Stuck 10 (drop at text) (k - at) → StopsAt Opening text k
first_cols text rows at k short inside e past s =
    stuck_stops Opening 10 (decimal rows ++ 32 ∷ []) newline_apart
    (λ v short'. (10 ∷ [], (rows, v, [], record { rows_short = short; cols_short = short'; reads = append_assoc (decimal rows) (32 ∷ []) (decimal v ++ 10 ∷ []) ∙ sym (two rows v []) })))
    (λ t h.
    let f : decimal rows ++ 32 ∷ t ≡ decimal h.0 ++ 32 ∷ (decimal h.1 ++ 10 ∷ h.2) = sym (append_assoc (decimal rows) (32 ∷ []) t) ∙ h.3.reads ∙ two h.0 h.1 h.2 in
    let same = number_same 32 rows h.0 t (decimal h.1 ++ 10 ∷ h.2) space_apart f in
    (h.1, h.2, h.3.cols_short, same.1))
    text (drop at text) (k - at) k s (e ∙ sym (append_assoc (decimal rows) (32 ∷ []) (drop at text)))
    (omega (arith, length-append (decimal rows) (32 ∷ []), simp (length-append, length-drop) at (ap length e)))

-- a text stops after its first line where what follows that line stops
pub after_first : (text : List ℕ) (rows cols next j : ℕ) → Opens rows cols (drop next text) text → next ≤ length text
    → StopsAt (λ s. (codes : List ℕ) × Rows rows cols codes s) (drop next text) j → StopsAt (ProperOf rows cols) text (next + j)
after_first text rows cols next j o inside h =
    stops_after (ProperOf rows cols) (λ s. (codes : List ℕ) × Rows rows cols codes s) (line (rows ∷ cols ∷ []))
    (λ s b. (
      b.0,
      record {
        opens = record { rows_short = o.rows_short; cols_short = o.cols_short; reads = ap (λ (t : List ℕ). line (rows ∷ cols ∷ []) ++ t) b.1.reads };
        codes_short = b.1.codes_short;
        codes_long = b.1.codes_long;
      },
    ))
    (λ s p. (
      p.0,
      record {
        codes_short = p.1.codes_short;
        codes_long = p.1.codes_long;
        reads = append_cancel_left (line (rows ∷ cols ∷ [])) s (lines rows cols p.0) p.1.opens.reads;
      },
    ))
    text (drop next text) j (next + j) o.reads (omega (arith, simp (length-append, length-drop) at (ap length o.reads))) h

-- a grid of at most 64 by 64 cells
pub area : {rows cols n : ℕ} → rows ≤ 64 → cols ≤ 64 → 4096 ≤ n → rows * cols ≤ n
area {rows} {cols} {n} h k l = omega (arith, mul-le-mul {n₂ = 64} {m₂ = 64} h k)
