-- Laws of numbers that are written in lines, number by number.
-- Assumes nothing.
use Prim.Native.Nat.{ℕ, ◌+◌, ◌*◌, ◌-◌, ◌<◌, ◌≤◌}
use mathlib.Core.Path.{◌≡◌, sym, ap, ◌∙◌}
use mathlib.Core.List.{List, [], ◌∷◌, ◌++◌, append_assoc, append-nil}
use native.Mathlib.Omega.{arith}
use lib.ListN.{length, get_or, drop, length-append, drop_of_length-le}
use Rattle.text.specs.Text.{decimal, lines}
use Rattle.text.specs.Read.{end_of}
use Rattle.text.proofs.Flat.{turn, flat, flat_cons, flat_nil, flat_rows}
use Rattle.text.proofs.Scan.{next_byte}
use Rattle.writer.specs.declared.Writer.{Writer}
use Rattle.writer.specs.Parts.{Room, Writes}
use Rattle.writer.proofs.Wrote.{writes_long, writes_then, writes_is}

-- how far a grid of numbers has been written: q numbers
pub record Shown (c : ℕ) (numbers : List ℕ) (before after : Writer) (right q : ℕ) : Type 0 where
  pub so_far : List ℕ
  pub wrote : Writes so_far before after
  pub ahead : flat c c numbers ≡ so_far ++ flat c right (drop q numbers)

pub shown_at : {c : ℕ} {numbers : List ℕ} {before after : Writer} {right right' q q' : ℕ} → right ≡ right' → q ≡ q' → Shown c numbers before after right q → Shown c numbers before after right' q'
shown_at e f s = rw (← e, ← f) s

module _ {c : ℕ} {numbers : List ℕ} {before after : Writer} {right q : ℕ} (s : Shown c numbers before after right q) (h : q < length numbers) where
  next_number : flat c c numbers ≡ s.so_far ++ (decimal (get_or numbers q 0) ++ end_of right ∷ flat c (turn c right) (drop (q + 1) numbers))
  next_number = s.ahead ∙ ap (λ (l : List ℕ). s.so_far ++ l) (ap (λ (l : List ℕ). flat c right l) (next_byte numbers q h) ∙ flat_cons c right (get_or numbers q 0) (drop (q + 1) numbers))

  -- there is room for the number and the byte after it
  pub shown_room : Room (length (flat c c numbers)) before → Room (length (decimal (get_or numbers q 0)) + 1) after
  shown_room room = omega (arith, simp length-append at (ap length next_number), s.wrote.wrote.next_is, writes_long s.wrote)

  pub shown_next : {mid last : Writer} → Writes (decimal (get_or numbers q 0)) after mid → Writes (end_of right ∷ []) mid last → Shown c numbers before last (turn c right) (q + 1)
  shown_next x y = record {
    so_far = s.so_far ++ (decimal (get_or numbers q 0) ++ end_of right ∷ []);
    wrote = writes_then s.wrote (writes_then x y);
    ahead = next_number ∙ simp append_assoc;
  }

pub shown_all : {c : ℕ} {numbers : List ℕ} {before after : Writer} {right q : ℕ} → Shown c numbers before after right q → length numbers ≤ q → Writes (flat c c numbers) before after
shown_all {c} {numbers} {right = right} s h =
    writes_is (sym (s.ahead ∙ ap (λ (l : List ℕ). s.so_far ++ l) (ap (λ (l : List ℕ). flat c right l) (drop_of_length-le numbers h) ∙ flat_nil c right) ∙ append-nil s.so_far)) s.wrote

pub grid_room : (rows cols : ℕ) (numbers : List ℕ) (w : Writer) → 1 ≤ cols → length numbers ≡ rows * cols → Room (length (lines rows cols numbers)) w
    → Room (length (flat (cols - 1) (cols - 1) numbers)) w
grid_room rows cols numbers w some long room = rw (flat_rows rows cols numbers some long) room
