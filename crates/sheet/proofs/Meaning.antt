-- What the meaning of a code tells of it: laws of `meaning_of`.
-- Assumes nothing.
use mathlib.Core.Path.{◌≡◌, refl}
use mathlib.Core.Bool.{Bool, true, false, cond, ◌||◌}
use Prim.Native.Nat.{ℕ, ◌<◌}
use native.Mathlib.Omega.{arith}
use borrow.Author.Tests.{ne_eqb}
use Rattle.sheet.specs.Compass.{step_at, step_of, is_arrow, is_absent, is_code, meaning_of}
use Rattle.sheet.specs.declared.compass.Step.{Step}
use Rattle.sheet.specs.declared.compass.Meaning.TheVariants.{Arrow, Absent, Bad}
use Rattle.sheet.proofs.Table.{no_arrow}

-- the two tests that `meaning_of` makes, in each of its cases
arrow_case : (a b : Bool) (s t : Step) → cond a (Arrow s) (cond b Absent Bad) ≡ Arrow t → (a ≡ true) × (s ≡ t)
arrow_case true b s t e = (refl, cc)
arrow_case false true s t e = let z : ◌≡◌ {A = ℕ} 0 1 = cc in absurd (omega arith)
arrow_case false false s t e = let z : ◌≡◌ {A = ℕ} 0 1 = cc in absurd (omega arith)

absent_case : (a b : Bool) (s : Step) → cond a (Arrow s) (cond b Absent Bad) ≡ Absent → (a ≡ false) × (b ≡ true)
absent_case true b s e = let z : ◌≡◌ {A = ℕ} 0 1 = cc in absurd (omega arith)
absent_case false true s e = (refl, refl)
absent_case false false s e = let z : ◌≡◌ {A = ℕ} 0 1 = cc in absurd (omega arith)

bad_case : (a b : Bool) (s : Step) → cond a (Arrow s) (cond b Absent Bad) ≡ Bad → (a ≡ false) × (b ≡ false)
bad_case true b s e = let z : ◌≡◌ {A = ℕ} 0 1 = cc in absurd (omega arith)
bad_case false true s e = let z : ◌≡◌ {A = ℕ} 0 1 = cc in absurd (omega arith)
bad_case false false s e = (refl, refl)

other_case : (a b : Bool) (s : Step) → ((t : Step) → cond a (Arrow s) (cond b Absent Bad) ≡ Arrow t → ⊥) → a ≡ false
other_case true b s other = absurd (other s refl)
other_case false b s other = refl

good_case : (a b : Bool) (s : Step) → (cond a (Arrow s) (cond b Absent Bad) ≡ Bad → ⊥) → (a || b) ≡ true
good_case true b s other = refl
good_case false true s other = refl
good_case false false s other = absurd (other refl)

module _ (x : ℕ) where
  pub meaning_arrow : {s : Step} → meaning_of x ≡ Arrow s → (is_arrow x ≡ true) × (step_of x ≡ s)
  unfolding meaning_of
  meaning_arrow {s} e = arrow_case (is_arrow x) (is_absent x) (step_of x) s e

  pub meaning_absent : meaning_of x ≡ Absent → (is_arrow x ≡ false) × (is_absent x ≡ true)
  unfolding meaning_of
  meaning_absent e = absent_case (is_arrow x) (is_absent x) (step_of x) e

  pub meaning_bad : meaning_of x ≡ Bad → (is_arrow x ≡ false) × (is_absent x ≡ false)
  unfolding meaning_of
  meaning_bad e = bad_case (is_arrow x) (is_absent x) (step_of x) e

  pub not_arrow : ((s : Step) → meaning_of x ≡ Arrow s → ⊥) → is_arrow x ≡ false
  unfolding meaning_of
  not_arrow other = other_case (is_arrow x) (is_absent x) (step_of x) other

  pub bad_code : meaning_of x ≡ Bad → is_code x ≡ false
  unfolding is_code
  bad_code e = rw ((meaning_bad e).0, (meaning_bad e).1)

  pub good_code : (meaning_of x ≡ Bad → ⊥) → is_code x ≡ true
  unfolding meaning_of is_code
  good_code other = good_case (is_arrow x) (is_absent x) (step_of x) other

  -- a number that stands in no line of the table and marks no absent cell
  pub bad_meaning : ((k : ℕ) → k < 8 → (step_at k).0 ≡ x → ⊥) → (x ≡ 0 → ⊥) → (x ≡ 255 → ⊥) → Bad ≡ meaning_of x
  unfolding meaning_of is_absent
  bad_meaning un a b = rw (no_arrow x un, ne_eqb x 0 a, ne_eqb x 255 b)
