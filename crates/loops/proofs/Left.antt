-- Places left without a count.
-- Assumes nothing.
use mathlib.Core.Bool.{Bool, true, false, true≢false, ◌&&◌}
use mathlib.Core.List.{List}
use mathlib.Core.Logic.{inl, inr}
use mathlib.Core.Path.{◌≡◌, sym, ap, ◌∙◌}
use Prim.Native.Nat.{ℕ, ◌<◌}
use lib.Dec.{eqb}
use lib.ListN.{length, get_or}
use borrow.Author.Tests.{eq-eqb, ne_eqb}
use Rattle.flow.proofs.Sum.{test, same}
use Rattle.sheet.specs.Compass.{is_arrow}
use Rattle.sheet.specs.Sheet.{land_at, count_at}
use Rattle.sheet.proofs.Dest.{land_read}
use native.Mathlib.Omega.{arith}
use Rattle.std.specs.Prelude.{Option, Some, None, MatchOption, ◌≤◌}
use Rattle.promise.specs.First.{Finds}
use Rattle.loops.specs.Left.{NotLeft, left_at}

-- ---- the test, as the code makes it

module _ (g c : List ℕ) (p : ℕ) where
  pub left_is : {b : Bool} → p < length g → b ≡ is_arrow (get_or g p 0) → (b && eqb (get_or c p 0) 0) ≡ left_at g c p
  unfolding left_at
  left_is l e = ap (λ x. x && eqb (count_at c p) 0) (e ∙ land_read g p l)

  -- what stands at a place that is left, and what does not at one that is not
  pub left_says : left_at g c p ≡ true → (land_at g p ≡ true) × (count_at c p ≡ 0)
  unfolding left_at
  left_says e = elim (test (land_at g p)) [
    | inl t ↦ elim (same (count_at c p) 0) [
      | inl z ↦ (t, z)
      | inr z ↦ absurd (true≢false (sym e ∙ rw (t, ne_eqb (count_at c p) 0 z)))
    ]
    | inr t ↦ absurd (true≢false (sym e ∙ rw t))
  ]

  pub left_not : left_at g c p ≡ false → land_at g p ≡ true → count_at c p ≡ 0 → ⊥
  unfolding left_at
  left_not e t z = true≢false (sym (rw (t, eq-eqb (count_at c p) 0 z)) ∙ e)

-- what a search over the places answers
pub finds_left : (g c : List ℕ) (n : ℕ) (r : Option ℕ) → MatchOption r ((k : ℕ) → 0 ≤ k → k < n → NotLeft g c k) (λ i. (0 ≤ i) × (i < n) × (left_at g c i ≡ true) × ((k : ℕ) → 0 ≤ k → k < i → NotLeft g c k)) → Finds n (NotLeft g c) r
finds_left g c n None m = λ q l. m q (omega arith) l
finds_left g c n (Some p) m = record { inside = m.1; here = λ e. true≢false (sym m.2 ∙ e); before = λ q l. m.3 q (omega arith) l }
