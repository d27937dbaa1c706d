-- How long the lines of words are, and that their items make them.
-- Assumes nothing.
use Prim.Native.Nat.{ℕ, ◌^◌, ◌<◌, ◌≤◌}
use mathlib.Core.Path.{◌≡◌, refl}
use mathlib.Core.List.{List, [], ◌∷◌, ◌++◌, append-nil}
use native.Mathlib.Omega.{arith}
use lib.ListN.{length, get_or, length-append}
use Rattle.show.specs.Show.{word, item, shape_line, totals_line, places, refusal}
use Rattle.show.proofs.Long.{decimal_20}

pub shape_is : (rows cols : ℕ) → item "rows " rows ++ (item " cols " cols ++ []) ++ (10 ∷ []) ≡ shape_line rows cols
unfolding word
shape_is rows cols = rw (append-nil (item " cols " cols))

pub totals_is : (land outlets greatest : ℕ)
    → item "land " land ++ (item " outlets " outlets ++ (item " greatest " greatest ++ [])) ++ (10 ∷ []) ≡ totals_line land outlets greatest
unfolding word
totals_is land outlets greatest = rw (append-nil (item " greatest " greatest))

pub shape_long : (rows cols : ℕ) → rows < 2 ^ 64 → cols < 2 ^ 64 → length (shape_line rows cols) ≤ 100
unfolding word
shape_long rows cols h k = simp length-append (omega (arith, decimal_20 rows h, decimal_20 cols k))

-- ---- a refusal's items are its line

pub reason_none : (n : ℕ) (values : List ℕ) → length values < 1 → item "refused " n ++ [] ++ (10 ∷ []) ≡ refusal n values
unfolding word places
reason_none n [] h = refl
reason_none n (p ∷ values) h = absurd (omega arith)

pub reason_place : (n : ℕ) (values : List ℕ) → 1 ≤ length values → length values < 2
    → item "refused " n ++ (item " at " (get_or values 0 0) ++ []) ++ (10 ∷ []) ≡ refusal n values
unfolding word places
reason_place n [] k h = absurd (omega arith)
reason_place n (p ∷ []) k h = rw (append-nil (item " at " p))
reason_place n (p ∷ l ∷ values) k h = absurd (omega arith)

pub reason_loop : (n : ℕ) (values : List ℕ) → 2 ≤ length values
    → item "refused " n ++ (item " at " (get_or values 0 0) ++ (item " length " (get_or values 1 0) ++ [])) ++ (10 ∷ []) ≡ refusal n values
unfolding word places
reason_loop n [] h = absurd (omega arith)
reason_loop n (p ∷ []) h = absurd (omega arith)
reason_loop n (p ∷ l ∷ values) h = rw (append-nil (item " length " l))
