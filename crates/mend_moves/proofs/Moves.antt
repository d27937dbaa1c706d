-- The two moves of mending: a cell taken out, and a cell put in. Each leaves one cell that owes a difference.
-- Assumes nothing.
use mathlib.Core.Bool.{true, false}
use mathlib.Core.List.{List}
use mathlib.Core.Logic.{inl, inr}
use mathlib.Core.Path.{◌≡◌, ◌∙◌}
use Prim.Native.Nat.{ℕ, ◌+◌, ◌*◌, ◌<◌, ◌≤◌}
use native.Mathlib.Omega.{arith}
use lib.ListN.{length, get_or, set, length-set}
use lib.Seq.{get_or-set_same, get_or-set_other, set-set, set-get_or}
use Rattle.flow.specs.Net.{steps, given}
use Rattle.flow.proofs.Bound.{counts_bound}
use Rattle.flow.proofs.Close.{without_free}
use Rattle.flow.proofs.Mend.{Off}
use Rattle.flow.proofs.MendBound.{off_bound}
use Rattle.flow.proofs.Sum.{same, on_true, on_false}
use Rattle.flow.proofs.Without.{take_out, take_out_end, put_off}
use Rattle.sheet.specs.Compass.{is_arrow}
use Rattle.sheet.specs.Leaves.{Laid}
use Rattle.sheet.specs.Sheet.{land_at, dest_of, unit, count_at, SheetCounts, SheetNoLoop}
use Rattle.sheet.proofs.Change.{changed_long, changed_land, sheet_without}
use Rattle.sheet.proofs.Dest.{dest_beyond}
use Rattle.sheet.proofs.Gather.{number_le}
use Rattle.sheet.proofs.Given.{given_absent}
use Rattle.sheet.proofs.Passes.{counts_no_loop}
use Rattle.mend_moves.specs.Moves.{Owing}
use Rattle.sheet.specs.Sheet.{CountsOf}

-- taking a cell out closes no loop
pub taken_free : (rows cols : ℕ) (g : List ℕ) (t : ℕ) → length g ≡ rows * cols → t < rows * cols → SheetNoLoop rows cols g → SheetNoLoop rows cols (set g t 255)
taken_free rows cols g t long lt free =
    without_free (rows * cols) t (dest_of rows cols g) (unit g) (dest_of rows cols (set g t 255)) (unit (set g t 255))
    (dest_beyond rows cols g long) (dest_beyond rows cols (set g t 255) (changed_long rows cols g t 255 lt long)) lt (sheet_without rows cols g t lt long) free

-- ---- the look ahead: the new code is stored, and then the old one again

module _ (rows cols : ℕ) (g : List ℕ) (t x : ℕ) (laid : Laid rows cols g g) (lt : t < rows * cols) where
  pub ahead_free : SheetNoLoop rows cols g → SheetNoLoop rows cols (set (set g t x) t 255)
  ahead_free free = rw (set-set g t x 255) (taken_free rows cols g t laid.grid_long lt free)

pub as_lent : (g : List ℕ) (t x : ℕ) → set (set g t x) t (get_or g t 0) ≡ g
as_lent g t x = set-set g t x (get_or g t 0) ∙ set-get_or g t 0

-- ---- t taken out: the grid has no t, 0 is stored at t, and the cell that its water went to has t's count too much

module _ (rows cols : ℕ) (g c : List ℕ) (t : ℕ) (laid : Laid rows cols g c) (lt : t < rows * cols) (counts : SheetCounts rows cols g c) where
  pub lent_free : SheetNoLoop rows cols g
  lent_free = counts_no_loop rows cols g laid.grid_long c counts

  pub taken_small : get_or c t 0 ≤ rows * cols
  taken_small = omega (
    arith,
    counts_bound (rows * cols) (dest_of rows cols g) (dest_beyond rows cols g laid.grid_long) lent_free (unit g) (count_at c) counts t lt,
    number_le (rows * cols) (land_at g),
  )

  other : (q : ℕ) → q < rows * cols → (q ≡ t → ⊥) → count_at (set c t 0) q ≡ count_at c q
  other q l e = get_or-set_other c t q 0 0 e

  zero_at_lem : count_at (set c t 0) t ≡ 0
  zero_at_lem = get_or-set_same c t 0 0 (omega (arith, laid.counts_long))

  moves : dest_of rows cols g t ≡ t → ⊥
  unfolding steps
  moves e = lent_free t lt (0, e)

  pub taken_owes : {u : ℕ} → u ≡ dest_of rows cols g t → Owing rows cols (set g t 255) (set c t 0) u 0 (get_or c t 0)
  taken_owes {u} e = record {
    long = simp length-set laid.counts_long;
    off = λ l. rw e (take_out (rows * cols) t (dest_of rows cols g) (unit g) (dest_of rows cols (set g t 255)) (unit (set g t 255)) (count_at c) (count_at (set c t 0)) lt
        (sheet_without rows cols g t lt laid.grid_long) other counts zero_at_lem moves (omega arith));
    even = λ l. take_out_end (rows * cols) t (dest_of rows cols g) (unit g) (dest_of rows cols (set g t 255)) (unit (set g t 255)) (count_at c) (count_at (set c t 0)) lt
        (sheet_without rows cols g t lt laid.grid_long) other counts zero_at_lem (omega arith);
  }

-- ---- t put in with the code x: the counts are those without t, and t lacks what it is to hold

module _ (rows cols : ℕ) (g c : List ℕ) (t x : ℕ) (laid : Laid rows cols g c) (lt : t < rows * cols) (counts : SheetCounts rows cols (set g t 255) c) where
  long : length (set g t x) ≡ rows * cols
  long = changed_long rows cols g t x lt laid.grid_long

  off : Off (rows * cols) (dest_of rows cols (set g t x)) (unit (set g t x)) (count_at c) t
      (unit (set g t x) t + given (rows * cols) (dest_of rows cols (set g t x)) (count_at c) t) 0
  off = put_off (rows * cols) t (dest_of rows cols (set g t x)) (unit (set g t x)) (dest_of rows cols (set (set g t x) t 255)) (unit (set (set g t x) t 255)) (count_at c) lt
      (sheet_without rows cols (set g t x) t lt long) (rw (set-set g t x 255) counts)

  -- an absent cell is to hold nothing
  pub put_absent : is_arrow x ≡ false → CountsOf rows cols (set g t x) c
  put_absent a =
      let absent : land_at (set g t x) t ≡ false = changed_land rows cols g t x lt laid.grid_long ∙ a in
      record {
        long = laid.counts_long;
        equation = λ p l. elim (same p t) [
          | inl e ↦ rw e (omega (arith, off.at, on_false 1 absent, given_absent rows cols (set g t x) (count_at c) t lt absent))
          | inr e ↦ off.rest p l e
        ];
      }

  module _ (arrow : is_arrow x ≡ true) where
    pub put_land : land_at (set g t x) t ≡ true
    put_land = changed_land rows cols g t x lt laid.grid_long ∙ arrow

  module _ (arrow : is_arrow x ≡ true) {s : ℕ} (sum : s ≡ given (rows * cols) (dest_of rows cols (set g t x)) (count_at c) t) where
    own : unit (set g t x) t + given (rows * cols) (dest_of rows cols (set g t x)) (count_at c) t ≡ s + 1
    own = omega (arith, on_true 1 (put_land arrow))

    -- a land cell is to hold 1 and what its givers hold
    pub put_owes : Owing rows cols (set g t x) c t (s + 1) 0
    put_owes = record {
      long = laid.counts_long;
      off = λ l. rw own at off;
      even = λ l. absurd (omega arith);
    }

    -- and that is no more than there are cells
    pub put_small : SheetNoLoop rows cols (set g t x) → s + 1 ≤ rows * cols
    put_small free = omega (
      arith,
      own,
      off_bound (rows * cols) (dest_of rows cols (set g t x)) (unit (set g t x)) (count_at c) t _ 0 (dest_beyond rows cols (set g t x) long) free lt off,
      number_le (rows * cols) (land_at (set g t x)),
    )
