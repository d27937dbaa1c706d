-- Counts of a sheet in the paper's other words: the number of land cells whose water passes, and what leaves at the outlets.
-- Assumes nothing.
use mathlib.Core.Bool.{Bool, true, false, not, ◌&&◌, ◌||◌, true≢false}
use mathlib.Core.List.{List}
use mathlib.Core.Logic.{◌⊎◌, inl, inr, ◌↔◌}
use mathlib.Core.Path.{◌≡◌, refl, sym, ◌∙◌}
use Prim.Native.Nat.{ℕ, ◌*◌, ◌<◌}
use native.Mathlib.Omega.{arith}
use lib.Dec.{eqb, ltb}
use lib.ListN.{length}
use borrow.Author.Tests.{eqb-true, eq-eqb}
use Rattle.flow.specs.Net.{on, sum, number, given, downb}
use Rattle.flow.proofs.Bound.{balance}
use Rattle.flow.proofs.Count.{weighted_no_loop, counts_unique}
use Rattle.flow.proofs.Passes.{counts_passes}
use Rattle.flow.proofs.Sum.{test, on_false, sum_ext, sum_none, on_ne}
use Rattle.flow.proofs.Walk.{downb_iff}
use Rattle.sheet.specs.Sheet.{land_at, dest_of, outlet_at, unit, count_at, passes, Downstream, SheetCounts, SheetNoLoop}
use Rattle.sheet.specs.Totals.{land_cells}
use Rattle.sheet.proofs.Dest.{dest_beyond, gives_unit, to_land}

-- ---- booleans

on_and : (a b : Bool) → on b (on a 1) ≡ on (a && b) 1
on_and true true = refl
on_and true false = refl
on_and false true = refl
on_and false false = refl

on_zero : (a : Bool) → on a 0 ≡ 0
on_zero true = refl
on_zero false = refl

or_true : (a b : Bool) → (a || b ≡ true) ↔ ((a ≡ true) ⊎ (b ≡ true))
or_true true b = (λ e. inl refl, λ e. refl)
or_true false b = (λ e. inr e, λ e. elim e [ inl x ↦ absurd (true≢false (sym x)) | inr x ↦ x ])

and_true : (a b : Bool) → (a && b ≡ true) ↔ ((a ≡ true) × (b ≡ true))
and_true true b = (λ e. (refl, e), λ e. e.1)
and_true false b = (λ e. absurd (true≢false (sym e)), λ e. absurd (true≢false (sym e.0)))

module _ (rows cols : ℕ) (g : List ℕ) (long : length g ≡ rows * cols) where
  -- the test `passes` says what it should
  pub passes_iff : (p q : ℕ) → p < rows * cols → (passes rows cols g p q ≡ true) ↔ ((land_at g q ≡ true) × ((q ≡ p) ⊎ Downstream rows cols g q p))
  unfolding passes
  passes_iff p q l =
      let (a, b) = and_true (land_at g q) (eqb q p || downb (rows * cols) (dest_of rows cols g) q p) in
      let (c, d) = or_true (eqb q p) (downb (rows * cols) (dest_of rows cols g) q p) in
      let (e, f) = downb_iff (rows * cols) (dest_of rows cols g) (dest_beyond rows cols g long) q p l in (
        λ h. ((a h).0, elim (c (a h).1) [ inl x ↦ inl (eqb-true q p x) | inr x ↦ inr (l, e x) ]),
        λ h. b (h.0, d (elim h.1 [ inl x ↦ inl (eq-eqb q p x) | inr x ↦ inr (f x.1) ])),
      )

  -- A CHECK OF THE EQUATION ALONE SUFFICES: where some counts satisfy it, arrows form no loop
  pub counts_no_loop : (counts : List ℕ) → SheetCounts rows cols g counts → SheetNoLoop rows cols g
  counts_no_loop counts eq =
      weighted_no_loop (rows * cols) (dest_of rows cols g) (dest_beyond rows cols g long) (unit g) (count_at counts) eq (λ p l h. (gives_unit rows cols g p l h).0)

  -- and no others satisfy it
  pub sheet_counts_unique : (c d : List ℕ) → SheetCounts rows cols g c → SheetCounts rows cols g d → (p : ℕ) → p < rows * cols → count_at c p ≡ count_at d p
  sheet_counts_unique c d a b =
      counts_unique (rows * cols) (dest_of rows cols g) (dest_beyond rows cols g long) (counts_no_loop c a) (unit g) (count_at c) (count_at d) a b

  module _ (counts : List ℕ) (eq : SheetCounts rows cols g counts) where
    -- EACH COUNT is the number of land cells whose water passes through that cell, itself included
    pub count_is_passing : (p : ℕ) → p < rows * cols → count_at counts p ≡ number (rows * cols) (passes rows cols g p)
    unfolding passes
    count_is_passing p l =
        counts_passes (rows * cols) (dest_of rows cols g) (dest_beyond rows cols g long) (counts_no_loop counts eq) (unit g) (count_at counts) eq p l
        ∙ sum_ext (λ q lq. on_and (land_at g q) (eqb q p || downb (rows * cols) (dest_of rows cols g) q p))

    -- an absent cell has 0
    pub absent_zero : (p : ℕ) → p < rows * cols → land_at g p ≡ false → count_at counts p ≡ 0
    unfolding given
    absent_zero p l e =
        let none : given (rows * cols) (dest_of rows cols g) (count_at counts) p ≡ 0 =
        sum_none (λ q lq. on_ne (dest_of rows cols g q) p (count_at counts q) (λ d. true≢false (sym (to_land rows cols g q d l) ∙ e))) in
        let bare : unit g p ≡ 0 = on_false 1 e in
        omega (arith, eq p l)

    -- THE COUNTS AT THE OUTLETS sum to the number of land cells
    pub outlets_sum : sum (rows * cols) (λ p. on (outlet_at rows cols g p) (count_at counts p)) ≡ land_cells rows cols g
    unfolding outlet_at
    outlets_sum =
        sum_ext (λ p l. elim (test (land_at g p)) [
          | inl t ↦ rw t
          | inr t ↦ rw (t, absent_zero p l t) (sym (on_zero (not (ltb (dest_of rows cols g p) (rows * cols)))))
        ])
        ∙ balance (rows * cols) (dest_of rows cols g) (unit g) (count_at counts) eq
