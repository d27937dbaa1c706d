-- The border cell that an exit steps onto: found where there is one, and none where there is none.
-- Assumes nothing.
use mathlib.Core.Path.{◌≡◌, sym, ap, ◌∙◌}
use mathlib.Core.Bool.{Bool, true, false}
use mathlib.Core.Logic.{inl, inr}
use Prim.Native.Nat.{ℕ, zero, suc, ◌*◌, ◌≤◌, ◌<◌}
use native.Mathlib.Omega.{arith}
use lib.Dec.{eqb}
use borrow.Author.Tests.{eqb-true, eqb-false, lt-ltb, le-ltb}
use Rattle.flow.proofs.Sum.{test}
use Rattle.flow.proofs.Walk.{below}
use Rattle.mosaic.specs.Layout.{sheet_rows, sheet_cols, all_borders, border_sheet_place}
use Rattle.mosaic.specs.Join.{first_below, steps_onto, onto}
use Rattle.mosaic.proofs.Borders.{border_places}

-- ---- the first number that passes a test

module _ (t : ℕ → Bool) where
  pub first_le : (n : ℕ) → first_below n t ≤ n
  unfolding first_below
  first_le zero = omega arith
  first_le (suc n) =
      elim (below (first_below n t) n) [
        | inl l ↦ rw (lt-ltb (first_below n t) n l) (omega arith)
        | inr l ↦ rw (le-ltb (first_below n t) n l) (elim (test (t n)) [ inl e ↦ rw e (omega arith) | inr e ↦ rw e (omega arith) ])
      ]

  -- where one is found, it passes
  pub first_hit : (n : ℕ) → first_below n t < n → t (first_below n t) ≡ true
  unfolding first_below
  first_hit zero l = absurd (omega arith)
  first_hit (suc n) l =
      elim (below (first_below n t) n) [
        | inl k ↦ rw (lt-ltb (first_below n t) n k) (first_hit n k)
        | inr k ↦ elim (test (t n)) [
          | inl e ↦ rw (le-ltb (first_below n t) n k, e) e
          | inr e ↦ absurd (let r = rw (le-ltb (first_below n t) n k, e) at l in omega arith)
        ]
      ]

  -- where none is found, none passes
  pub first_miss : (n : ℕ) → n ≤ first_below n t → (k : ℕ) → k < n → t k ≡ false
  unfolding first_below
  first_miss zero h k l = absurd (omega arith)
  first_miss (suc n) h k l =
      elim (below (first_below n t) n) [
        | inl b ↦ absurd (let r = rw (lt-ltb (first_below n t) n b) at h in omega arith)
        | inr b ↦ elim (test (t n)) [
          | inl e ↦ absurd (let r = rw (le-ltb (first_below n t) n b, e) at h in omega arith)
          | inr e ↦ elim (below k n) [ inl lk ↦ first_miss n b k lk | inr lk ↦ (let s : k ≡ n = omega arith in ap t s ∙ e) ]
        ]
      ]

-- ---- the border cell stepped onto

module _ (I J : ℕ) (hs ws code : ℕ → ℕ) (g : ℕ) where
  pub onto_le : onto I J hs ws code g ≤ all_borders I J hs ws
  unfolding onto
  onto_le = first_le (λ h. eqb (border_sheet_place I J hs ws h) (steps_onto I J hs ws code g)) (all_borders I J hs ws)

  pub onto_at : onto I J hs ws code g < all_borders I J hs ws → border_sheet_place I J hs ws (onto I J hs ws code g) ≡ steps_onto I J hs ws code g
  unfolding onto
  onto_at l = eqb-true _ _ (first_hit (λ h. eqb (border_sheet_place I J hs ws h) (steps_onto I J hs ws code g)) (all_borders I J hs ws) l)

  onto_miss : all_borders I J hs ws ≤ onto I J hs ws code g → (h : ℕ) → h < all_borders I J hs ws → border_sheet_place I J hs ws h ≡ steps_onto I J hs ws code g → ⊥
  unfolding onto
  onto_miss m h l = eqb-false _ _ (first_miss (λ h. eqb (border_sheet_place I J hs ws h) (steps_onto I J hs ws code g)) (all_borders I J hs ws) m h l)

  -- it is the one that stands at that place
  pub onto_is : (h : ℕ) → h < all_borders I J hs ws → border_sheet_place I J hs ws h ≡ steps_onto I J hs ws code g → onto I J hs ws code g ≡ h
  onto_is h l e =
      elim (below (onto I J hs ws code g) (all_borders I J hs ws)) [
        | inl b ↦ (border_places I J hs ws).once (onto I J hs ws code g) h b l (onto_at b ∙ sym e)
        | inr b ↦ absurd (onto_miss b h l e)
      ]

  pub onto_none : ((h : ℕ) → h < all_borders I J hs ws → border_sheet_place I J hs ws h ≡ steps_onto I J hs ws code g → ⊥) → onto I J hs ws code g ≡ all_borders I J hs ws
  onto_none empty =
      elim (below (onto I J hs ws code g) (all_borders I J hs ws)) [
        | inl b ↦ absurd (empty (onto I J hs ws code g) b (onto_at b))
        | inr b ↦ omega (arith, onto_le)
      ]

  -- off the mosaic stands none
  pub onto_off : sheet_rows I hs * sheet_cols J ws ≤ steps_onto I J hs ws code g → onto I J hs ws code g ≡ all_borders I J hs ws
  onto_off h = onto_none (λ k l e. omega (arith, (border_places I J hs ws).into k l))
