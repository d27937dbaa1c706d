-- Rows, columns and places of any shape, and a line in pieces of the lengths f 0, f 1, ..: piece i starts at sum i f.
-- Assumes nothing.
use mathlib.Core.Path.{◌≡◌, sym, ap, ap₂, ◌∙◌}
use mathlib.Core.Logic.{◌⊎◌, inl, inr}
use Prim.Native.Nat.{ℕ, zero, suc, ◌+◌, ◌*◌, ◌/◌, ◌%◌, ◌≤◌, ◌<◌}
use native.Mathlib.Omega.{arith}
use native.Mathlib.Nat.{div-add-mod', mod-lt, div-lt_iff_lt-mul}
use borrow.Author.Tests.{lt-ltb, le-ltb}
use Rattle.flow.specs.Net.{sum}
use Rattle.flow.proofs.Sum.{sum_suc}
use Rattle.flow.proofs.Walk.{below}
use Rattle.sheet.proofs.Places.{cols_pos}
use Rattle.mosaic.specs.Layout.{piece}

-- ---- rows, columns and places

pub row_in : (rows cols p : ℕ) → p < rows * cols → p / cols < rows
row_in rows cols p l = (div-lt_iff_lt-mul (cols_pos rows cols p l)).1 l

pub col_in : (rows cols p : ℕ) → p < rows * cols → p % cols < cols
col_in rows cols p l = mod-lt p (cols_pos rows cols p l)

-- a place is that of its row and its column
pub spot_is : (cols p : ℕ) → p / cols * cols + p % cols ≡ p
spot_is cols p = div-add-mod' p cols

-- the same row and the same column, the same place
pub same_spot : (cols p q : ℕ) → p / cols ≡ q / cols → p % cols ≡ q % cols → p ≡ q
same_spot cols p q r c = sym (spot_is cols p) ∙ ap₂ (λ (x y : ℕ). x * cols + y) r c ∙ spot_is cols q

-- ---- pieces

-- pieces that are at most m long
pub sum_most : (k m : ℕ) (f : ℕ → ℕ) → ((i : ℕ) → i < k → f i ≤ m) → sum k f ≤ k * m
unfolding sum
sum_most zero m f h = omega arith
sum_most (suc k) m f h = omega (arith, sum_most k m f (λ i l. h i (omega arith)), h k (omega arith))

-- a later piece starts no earlier
pub starts_rise : (f : ℕ → ℕ) (i j : ℕ) → i ≤ j → sum i f ≤ sum j f
starts_rise f i zero l = let e : i ≡ 0 = omega arith in omega (arith, ap (λ (x : ℕ). sum x f) e)
starts_rise f i (suc j) l =
    elim (below i (suc j)) [
      | inl b ↦ omega (arith, starts_rise f i j (omega arith), sum_suc j f)
      | inr b ↦ (let e : i ≡ suc j = omega arith in omega (arith, ap (λ (x : ℕ). sum x f) e))
    ]

-- x lies in piece i
abbrev pub Lies : (ℕ → ℕ) → ℕ → ℕ → Type 0
Lies f i x = (sum i f ≤ x) × (x < sum i f + f i)

-- a piece ends before the pieces after it
pub piece_before : (f : ℕ → ℕ) (i j : ℕ) → i < j → sum i f + f i ≤ sum j f
piece_before f i j l = omega (arith, starts_rise f (suc i) j l, sum_suc i f)

-- x lies in one piece
pub piece_unique : (f : ℕ → ℕ) (i j x : ℕ) → Lies f i x → Lies f j x → i ≡ j
piece_unique f i j x a b =
    elim (below i j) [
      | inl l ↦ absurd (omega (arith, piece_before f i j l, b.0))
      | inr l ↦ elim (below j i) [ inl k ↦ absurd (omega (arith, piece_before f j i k, a.0)) | inr k ↦ omega arith ]
    ]

-- `piece` finds it
pub piece_is : (f : ℕ → ℕ) (k x : ℕ) → x < sum k f → (piece f k x < k) × Lies f (piece f k x) x
unfolding piece sum
piece_is f zero x l = absurd (omega arith)
piece_is f (suc k) x l =
    elim (below x (sum k f)) [
      | inl b ↦ rw (lt-ltb x (sum k f) b) (let r = piece_is f k x b in (omega arith, r.1))
      | inr b ↦ rw (le-ltb x (sum k f) b) (omega arith, (b, l))
    ]

-- number r of piece i
pub piece_below : (f : ℕ → ℕ) (k i r : ℕ) → i < k → r < f i → sum i f + r < sum k f
piece_below f k i r li lr = omega (arith, piece_before f i k li)

pub piece_at : (f : ℕ → ℕ) (k i r : ℕ) → i < k → r < f i → piece f k (sum i f + r) ≡ i
piece_at f k i r li lr = piece_unique f _ i (sum i f + r) (piece_is f k (sum i f + r) (piece_below f k i r li lr)).1 (omega arith, omega arith)

-- two numbers at most one apart in two pieces: one is the last of its piece, and the other the first of its own
pub next_piece : (f : ℕ → ℕ) (i j r s : ℕ) → r < f i → s < f j → i < j → sum j f + s ≤ suc (sum i f + r) → (suc r ≡ f i) × (s ≡ 0)
next_piece f i j r s lr ls l near = let b = piece_before f i j l in (omega arith, omega arith)

-- so each stands at an end of its piece
pub piece_end : (f : ℕ → ℕ) (i j r s : ℕ) → r < f i → s < f j → (i ≡ j → ⊥) → sum j f + s ≤ suc (sum i f + r) → sum i f + r ≤ suc (sum j f + s)
    → (s ≡ 0) ⊎ (suc s ≡ f j)
piece_end f i j r s lr ls d near far =
    elim (below i j) [
      | inl l ↦ inl (next_piece f i j r s lr ls l near).1
      | inr l ↦ inr (next_piece f j i s r ls lr (omega arith) far).0
    ]
