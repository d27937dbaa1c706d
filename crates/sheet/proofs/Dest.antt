-- Laws of `dest_of`, by which the layers above go: water goes from land to land, to a place of the sheet or to none.
-- Assumes nothing.
use mathlib.Core.Path.{◌≡◌, refl, sym, ap, ◌∙◌}
use mathlib.Core.Bool.{Bool, true, false, cond, true≢false}
use mathlib.Core.List.{List, [], ◌∷◌}
use mathlib.Core.Logic.{inl, inr, ◌↔◌}
use Prim.Native.Nat.{ℕ, zero, suc, ◌*◌, ◌<◌, ◌≤◌}
use native.Mathlib.Omega.{arith}
use native.Mathlib.Nat.{le_of_suc-le-suc}
use lib.ListN.{length, get_or, get_or-eq_default}
use borrow.Author.Tests.{le-ltb, ltb-false, not-true}
use Rattle.flow.proofs.Sum.{test, on_true}
use Rattle.flow.proofs.Walk.{below}
use Rattle.sheet.specs.Compass.{is_arrow, step_of}
use Rattle.sheet.specs.Sheet.{code_at, land_at, step_from, dest_of, outlet_at, unit}
use Rattle.sheet.proofs.Table.{absent_no_arrow}

-- ---- codes and land

-- an element that is there is read the same with any default
pub get_or_there : (l : List ℕ) (i d e : ℕ) → i < length l → get_or l i d ≡ get_or l i e
get_or_there [] i d e h = absurd (omega arith)
get_or_there (x ∷ l) zero d e h = refl
get_or_there (x ∷ l) (suc i) d e h = get_or_there l i d e (le_of_suc-le-suc h)

-- the code that is read at a place of the grid
pub code_read : (g : List ℕ) (p : ℕ) → p < length g → get_or g p 0 ≡ code_at g p
code_read g p l = get_or_there g p 0 255 l

pub land_read : (g : List ℕ) (p : ℕ) → p < length g → is_arrow (get_or g p 0) ≡ land_at g p
unfolding land_at
land_read g p l = ap is_arrow (code_read g p l)

-- beyond the grid there is no land
pub no_land : (g : List ℕ) (p : ℕ) → length g ≤ p → land_at g p ≡ false
unfolding land_at
no_land g p l = ap is_arrow (get_or-eq_default g 255 {n = p} l) ∙ absent_no_arrow.1

pub land_inside : (g : List ℕ) (p : ℕ) → land_at g p ≡ true → p < length g
land_inside g p t = elim (below p (length g)) [ inl l ↦ l | inr l ↦ absurd (true≢false (sym t ∙ no_land g p l)) ]

-- ---- each way through the definition

module _ (rows cols : ℕ) (g : List ℕ) (p : ℕ) where
  -- a cell that is no land gives to none
  pub dest_absent : land_at g p ≡ false → dest_of rows cols g p ≡ rows * cols
  unfolding dest_of land_at
  dest_absent e = rw e

  -- an arrow that steps onto land
  pub dest_land : {q : ℕ} → land_at g p ≡ true → step_from rows cols (step_of (code_at g p)) p ≡ q → land_at g q ≡ true → dest_of rows cols g p ≡ q
  unfolding dest_of land_at
  dest_land t s e = rw (t, s, e)

  -- and one that does not
  pub dest_out : {q : ℕ} → land_at g p ≡ true → step_from rows cols (step_of (code_at g p)) p ≡ q → land_at g q ≡ false → dest_of rows cols g p ≡ rows * cols
  unfolding dest_of land_at
  dest_out t s e = rw (t, s, e)

  -- the same of the code that is read at p, for each way through the code that computes it
  module _ (there : p < length g) where
    pub read_absent : is_arrow (get_or g p 0) ≡ false → rows * cols ≡ dest_of rows cols g p
    read_absent e = sym (dest_absent (sym (land_read g p there) ∙ e))

    module _ {q : ℕ} (t : is_arrow (get_or g p 0) ≡ true) (s : q ≡ step_from rows cols (step_of (get_or g p 0)) p) where
      stepped : step_from rows cols (step_of (code_at g p)) p ≡ q
      stepped = ap (λ x. step_from rows cols (step_of x) p) (sym (code_read g p there)) ∙ sym s

      pub read_land : land_at g q ≡ true → q ≡ dest_of rows cols g p
      read_land e = sym (dest_land (sym (land_read g p there) ∙ t) stepped e)

      pub read_out : land_at g q ≡ false → rows * cols ≡ dest_of rows cols g p
      read_out e = sym (dest_out (sym (land_read g p there) ∙ t) stepped e)

-- ---- what the layers above use

-- of two tests and a number, what a result below n tells
pub both_on : (s t : Bool) (x n p : ℕ) → cond s (cond t x n) n ≡ p → p < n → (s ≡ true) × (t ≡ true) × (x ≡ p)
both_on true true x n p e l = (refl, refl, e)
both_on true false x n p e l = absurd (omega arith)
both_on false t x n p e l = absurd (omega arith)

module _ (rows cols : ℕ) (g : List ℕ) where
  module _ (p : ℕ) {q : ℕ} (e : dest_of rows cols g p ≡ q) (l : q < rows * cols) where
    taken : (land_at g p ≡ true) × (land_at g (step_from rows cols (step_of (code_at g p)) p) ≡ true) × (step_from rows cols (step_of (code_at g p)) p ≡ q)
    unfolding dest_of land_at
    taken = both_on (is_arrow (code_at g p)) (land_at g (step_from rows cols (step_of (code_at g p)) p)) (step_from rows cols (step_of (code_at g p)) p) (rows * cols) q e l

    -- water goes from land
    pub from_land : land_at g p ≡ true
    from_land = taken.0

    -- to land, and never to an absent cell
    pub to_land : land_at g q ≡ true
    to_land = ap (land_at g) (sym taken.2) ∙ taken.1

    -- to the place that the arrow steps onto
    pub dest_step : step_from rows cols (step_of (code_at g p)) p ≡ q
    dest_step = taken.2

  module _ (long : length g ≡ rows * cols) where
    -- to a place of the sheet, or to none
    pub dest_le : (p : ℕ) → dest_of rows cols g p ≤ rows * cols
    dest_le p =
        let q : ℕ = step_from rows cols (step_of (code_at g p)) p in
        elim (test (land_at g p)) [
          | inl t ↦ elim (test (land_at g q)) [
            | inl u ↦ omega (arith, dest_land rows cols g p t refl u, land_inside g q u)
            | inr u ↦ omega (arith, dest_out rows cols g p t refl u)
          ]
          | inr t ↦ omega (arith, dest_absent rows cols g p t)
        ]

    -- beyond the sheet no cell gives
    pub dest_beyond : (p : ℕ) → rows * cols ≤ p → rows * cols ≤ dest_of rows cols g p
    dest_beyond p h = omega (arith, dest_absent rows cols g p (no_land g p (omega arith)))

  -- a cell that gives adds 1 itself, and so does the cell that it gives to
  pub gives_unit : (p : ℕ) → p < rows * cols → dest_of rows cols g p < rows * cols → (0 < unit g p) × (0 < unit g (dest_of rows cols g p))
  gives_unit p h l = (omega (arith, on_true 1 (from_land p refl l)), omega (arith, on_true 1 (to_land p refl l)))

  -- an outlet is a land cell that gives to none
  pub outlet_iff : (p : ℕ) → (outlet_at rows cols g p ≡ true) ↔ ((land_at g p ≡ true) × (rows * cols ≤ dest_of rows cols g p))
  unfolding outlet_at
  outlet_iff p = (
    λ e. elim (test (land_at g p)) [
      | inl t ↦ (t, ltb-false (dest_of rows cols g p) (rows * cols) (not-true _ (sym (rw t) ∙ e)))
      | inr t ↦ absurd (true≢false (sym e ∙ rw t))
    ],
    λ h. rw (h.0, le-ltb (dest_of rows cols g p) (rows * cols) h.1),
  )
