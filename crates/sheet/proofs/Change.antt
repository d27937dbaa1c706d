-- A sheet with another code at one place t: what stays, and the sheet without that cell.
-- Assumes nothing.
use mathlib.Core.Bool.{false, true≢false}
use mathlib.Core.List.{List}
use mathlib.Core.Path.{◌≡◌, sym, ap, ◌∙◌}
use Prim.Native.Nat.{ℕ, ◌*◌, ◌<◌}
use native.Mathlib.Omega.{arith}
use lib.ListN.{length, set, length-set}
use lib.Seq.{get_or-set_same, get_or-set_other}
use Rattle.flow.specs.Net.{on}
use Rattle.flow.proofs.Alike.{Alike}
use Rattle.flow.proofs.Sum.{on_false}
use Rattle.flow.proofs.Without.{Without}
use Rattle.sheet.specs.Compass.{is_arrow, step_of}
use Rattle.sheet.specs.Sheet.{code_at, land_at, step_from, dest_of, unit}
use Rattle.sheet.proofs.Table.{absent_no_arrow}
use Rattle.sheet.proofs.Dest.{dest_absent, dest_land, dest_step, from_land, to_land}

-- ---- two grids that agree at each place but t

module _ (rows cols : ℕ) (g h : List ℕ) (t : ℕ) (other : (q : ℕ) → (q ≡ t → ⊥) → code_at h q ≡ code_at g q) where
  land_other : (q : ℕ) → (q ≡ t → ⊥) → land_at h q ≡ land_at g q
  unfolding land_at
  land_other q d = ap is_arrow (other q d)

  -- an arrow from a cell other than t to a cell other than t is there in both
  dest_other : (q r : ℕ) → r < rows * cols → (q ≡ t → ⊥) → (r ≡ t → ⊥) → dest_of rows cols g q ≡ r → dest_of rows cols h q ≡ r
  dest_other q r l dq dr e =
      dest_land rows cols h q
      (land_other q dq ∙ from_land rows cols g q e l)
      (ap (λ x. step_from rows cols (step_of x) q) (other q dq) ∙ dest_step rows cols g q e l)
      (land_other r dr ∙ to_land rows cols g q e l)

-- ---- a code stored at t

module _ (rows cols : ℕ) (g : List ℕ) (t x : ℕ) where
  stays : (q : ℕ) → (q ≡ t → ⊥) → code_at (set g t x) q ≡ code_at g q
  stays q d = get_or-set_other g t q x 255 d

  -- the other cells keep their arrows, but for those onto t
  pub changed_alike : Alike (rows * cols) t (dest_of rows cols g) (dest_of rows cols (set g t x))
  changed_alike q r lq lr dq dr =
      (dest_other rows cols g (set g t x) t stays q r lr dq dr, dest_other rows cols (set g t x) g t (λ p d. sym (stays p d)) q r lr dq dr)

  -- and add what they added
  pub changed_unit : (q : ℕ) → q < rows * cols → (q ≡ t → ⊥) → unit (set g t x) q ≡ unit g q
  changed_unit q l d = ap (λ b. on b 1) (land_other rows cols g (set g t x) t stays q d)

  module _ (lt : t < rows * cols) (long : length g ≡ rows * cols) where
    pub changed_long : length (set g t x) ≡ rows * cols
    changed_long = simp length-set long

    -- t has that code
    pub changed_code : code_at (set g t x) t ≡ x
    changed_code = get_or-set_same g t x 255 (omega arith)

    pub changed_land : land_at (set g t x) t ≡ is_arrow x
    unfolding land_at
    changed_land = ap is_arrow changed_code

-- ---- the sheet without t: t marked absent

pub sheet_without : (rows cols : ℕ) (g : List ℕ) (t : ℕ) → t < rows * cols → length g ≡ rows * cols
    → Without (rows * cols) t (dest_of rows cols g) (unit g) (dest_of rows cols (set g t 255)) (unit (set g t 255))
sheet_without rows cols g t lt long =
    let gone : land_at (set g t 255) t ≡ false = changed_land rows cols g t 255 lt long ∙ absent_no_arrow.1 in
    record {
      alike = changed_alike rows cols g t 255;
      weights = changed_unit rows cols g t 255;
      gone = omega (arith, dest_absent rows cols (set g t 255) t gone);
      alone = λ q l e. true≢false (sym (to_land rows cols (set g t 255) q e lt) ∙ gone);
      bare = on_false 1 gone;
    }
