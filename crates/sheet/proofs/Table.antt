-- The compass table's laws: what holds at each of its eight lines, found by computing there.
-- Assumes nothing.
use mathlib.Core.Path.{◌≡◌, refl}
use Prim.Native.Nat.{ℕ, zero, suc, ◌<◌}
use native.Mathlib.Omega.{arith}
use borrow.Author.Tests.{ne_eqb, eqb-true, lt-ltb, ltb-true}
use mathlib.Core.Bool.{Bool, true, false, cond}
use mathlib.Core.List.{List, [], ◌∷◌}
use lib.Dec.{eqb}
use lib.IntN.{pos}
use lib.ListN.{length, get_or}
use Rattle.sheet.specs.Compass.{step_at, line_of, is_arrow, find_code, compass, go}
use Rattle.sheet.specs.declared.compass.Step.{Step}

-- a statement that holds at 0 to 7 holds at each number below 8
pub below8 : (P : ℕ → Type 0) → P 0 → P 1 → P 2 → P 3 → P 4 → P 5 → P 6 → P 7 → (k : ℕ) → k < 8 → P k
below8 P a b c d e f g h zero l = a
below8 P a b c d e f g h (suc zero) l = b
below8 P a b c d e f g h (suc (suc zero)) l = c
below8 P a b c d e f g h (suc (suc (suc zero))) l = d
below8 P a b c d e f g h (suc (suc (suc (suc zero)))) l = e
below8 P a b c d e f g h (suc (suc (suc (suc (suc zero))))) l = f
below8 P a b c d e f g h (suc (suc (suc (suc (suc (suc zero)))))) l = g
below8 P a b c d e f g h (suc (suc (suc (suc (suc (suc (suc zero))))))) l = h
below8 P a b c d e f g h (suc (suc (suc (suc (suc (suc (suc (suc n)))))))) l =
    absurd (omega arith)

-- the code at k leads back to k
pub line_code : (k : ℕ) → k < 8 → line_of (step_at k).0 ≡ k
unfolding line_of
line_code k l = below8 (λ k. line_of (step_at k).0 ≡ k) refl refl refl refl refl refl refl refl k l

-- a code that stands nowhere in the table has the number 8
pub line_none : (x : ℕ) → ((k : ℕ) → k < 8 → (step_at k).0 ≡ x → ⊥) → line_of x ≡ 8
unfolding line_of
line_none x un =
    simp (
      ne_eqb _ _ (un 0 (omega arith)),
      ne_eqb _ _ (un 1 (omega arith)),
      ne_eqb _ _ (un 2 (omega arith)),
      ne_eqb _ _ (un 3 (omega arith)),
      ne_eqb _ _ (un 4 (omega arith)),
      ne_eqb _ _ (un 5 (omega arith)),
      ne_eqb _ _ (un 6 (omega arith)),
      ne_eqb _ _ (un 7 (omega arith)),
    )

-- the marks of an absent cell are no arrows
pub absent_no_arrow : (is_arrow 0 ≡ false) × (is_arrow 255 ≡ false)
unfolding is_arrow line_of
absent_no_arrow = (refl, refl)

-- a code that is found is the code of the step found
hit_at : (b : Bool) (s : Step) (l : List Step) (d : Step) (x : ℕ) → eqb s.0 x ≡ b → (find_code l x < length l → (get_or l (find_code l x) d).0 ≡ x)
    → cond b 0 (suc (find_code l x)) < suc (length l) → (get_or (s ∷ l) (cond b 0 (suc (find_code l x))) d).0 ≡ x
hit_at true s l d x e f h = eqb-true s.0 x e
hit_at false s l d x e f h = f (omega arith)

find_hit : (l : List Step) (d : Step) (x : ℕ) → find_code l x < length l → (get_or l (find_code l x) d).0 ≡ x
find_hit [] d x h = absurd (omega arith)
find_hit (s ∷ l) d x h = hit_at (eqb s.0 x) s l d x refl (find_hit l d x) h

pub line_hit : (x : ℕ) → line_of x < 8 → (step_at (line_of x)).0 ≡ x
unfolding line_of
line_hit x h = find_hit compass (go 0 (pos 0) (pos 0)) x h

-- an arrow stands in the table
pub arrow_line : (x : ℕ) → is_arrow x ≡ true → line_of x < 8
unfolding is_arrow
arrow_line x e = ltb-true (line_of x) 8 e

-- each line of the table has an arrow, and its step
pub line_arrow : (k : ℕ) → k < 8 → is_arrow (step_at k).0 ≡ true
unfolding is_arrow
line_arrow k l = lt-ltb (line_of (step_at k).0) 8 (omega (arith, line_code k l))

-- a number that stands in no line is no arrow
pub no_arrow : (x : ℕ) → ((k : ℕ) → k < 8 → (step_at k).0 ≡ x → ⊥) → is_arrow x ≡ false
unfolding is_arrow
no_arrow x un = rw (line_none x un)
