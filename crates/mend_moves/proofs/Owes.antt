-- One step of carrying a difference down a way: the cell that owes it is set right, and the next one owes it.
-- Assumes nothing.
use mathlib.Core.List.{List}
use mathlib.Core.Path.{◌≡◌, ap}
use Prim.Native.Nat.{ℕ, ◌+◌, ◌-◌, ◌*◌, ◌<◌, ◌≤◌}
use native.Mathlib.Omega.{arith}
use lib.ListN.{get_or, set, length-set}
use lib.Seq.{get_or-set_same, get_or-set_other}
use Rattle.flow.specs.Net.{steps}
use Rattle.flow.proofs.Mend.{Stored, mend_on, mend_end}
use Rattle.flow.proofs.MendBound.{off_bound}
use Rattle.flow.proofs.Test.{to_go, to_go_falls}
use Rattle.sheet.specs.Leaves.{Laid}
use Rattle.sheet.specs.Sheet.{land_at, dest_of, unit, count_at, SheetNoLoop}
use Rattle.sheet.proofs.Dest.{dest_beyond}
use Rattle.sheet.proofs.Gather.{number_le}
use Rattle.sheet.proofs.Places.{laid_area}
use Rattle.mend_moves.specs.Moves.{Owing}

module _ (rows cols : ℕ) (g c : List ℕ) (t more less : ℕ) (laid : Laid rows cols g c) (free : SheetNoLoop rows cols g) (s : Owing rows cols g c t more less)
    (small : less ≤ rows * cols) (lt : t < rows * cols) where
  -- what t holds, with what it lacks, is enough to take off what it has too much, and fits
  pub enough : less ≤ get_or c t 0 + more
  enough = omega (arith, (s.off lt).at)

  pub fits : get_or c t 0 + more < 4294967296
  fits = omega (
    arith,
    off_bound (rows * cols) (dest_of rows cols g) (unit g) (count_at c) t more less (dest_beyond rows cols g laid.grid_long) free lt (s.off lt),
    number_le (rows * cols) (land_at g),
    laid_area laid,
  )

  right : ℕ
  right = get_or c t 0 + more - less

  stored : Stored (rows * cols) (count_at c) (count_at (set c t right)) t more less
  unfolding right
  stored = record {
    same = λ q l e. get_or-set_other c t q right 0 e;
    new = omega (arith, enough, get_or-set_same c t right 0 (omega (arith, laid.counts_long)));
  }

  moves : dest_of rows cols g t ≡ t → ⊥
  unfolding steps
  moves e = free t lt (0, e)

  pub carried : {u : ℕ} → u ≡ dest_of rows cols g t → Owing rows cols g (set c t (get_or c t 0 + more - less)) u more less
  unfolding right
  carried {u} e = record {
    long = simp length-set s.long;
    off = λ l. rw e (mend_on (rows * cols) (dest_of rows cols g) (unit g) (count_at c) (count_at (set c t right)) t more less lt stored (s.off lt) moves (omega arith));
    even = λ l. mend_end (rows * cols) (dest_of rows cols g) (unit g) (count_at c) (count_at (set c t right)) t more less lt stored (s.off lt) moves (omega arith);
  }

  -- the way is then one cell shorter
  pub carried_less : {u : ℕ} → u ≡ dest_of rows cols g t → to_go (rows * cols) (dest_of rows cols g) u < to_go (rows * cols) (dest_of rows cols g) t
  carried_less e =
      omega (arith, to_go_falls (rows * cols) (dest_of rows cols g) (dest_beyond rows cols g laid.grid_long) free t lt, ap (to_go (rows * cols) (dest_of rows cols g)) e)
