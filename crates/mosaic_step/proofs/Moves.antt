-- A move by one along a line in pieces: one law for each way through the code that computes it, and that it is the move.
-- Assumes nothing.
use mathlib.Core.Logic.{◌⊎◌, inl, inr}
use mathlib.Core.Path.{◌≡◌, sym, ◌∙◌}
use Prim.Native.Nat.{ℕ, suc, ◌+◌, ◌-◌, ◌≤◌, ◌<◌}
use native.Mathlib.Omega.{arith}
use borrow.Author.Tests.{eq-eqb, ne_eqb, lt-ltb, le-ltb}
use Rattle.std.proofs.Common.{Option, Some, None, SomeIff}
use Rattle.flow.proofs.Sum.{same}
use Rattle.flow.proofs.Walk.{below}
use Rattle.sheet.specs.Grid.{LeadsTo}
use Rattle.mosaic.proofs.Neighbours.{Moved, moved_within, moved_back, moved_on}
use Rattle.mosaic_step.specs.Line.{piece_after, number_after}

module _ (pieces i long x : ℕ) where
  pub after_none : x ≡ 0 → i ≡ 0 → piece_after pieces i long x ≡ pieces
  unfolding piece_after
  after_none z e = rw (eq-eqb x 0 z, eq-eqb i 0 e)

  pub after_back : x ≡ 0 → (i ≡ 0 → ⊥) → piece_after pieces i long x ≡ i - 1
  unfolding piece_after
  after_back z e = rw (eq-eqb x 0 z, ne_eqb i 0 e)

  pub after_on : (x ≡ 0 → ⊥) → long < x → piece_after pieces i long x ≡ i + 1
  unfolding piece_after
  after_on z l = rw (ne_eqb x 0 z, lt-ltb long x l)

  pub after_within : (x ≡ 0 → ⊥) → x ≤ long → piece_after pieces i long x ≡ i
  unfolding piece_after
  after_within z l = rw (ne_eqb x 0 z, le-ltb long x l)

  -- a move back, from any piece but the first
  pub after_less : x ≡ 0 → i < pieces → (r : Option ℕ) → SomeIff r (1 ≤ i) (i - 1) → LeadsTo pieces (piece_after pieces i long x) r
  after_less z l None n = after_none z (omega (arith, n))
  after_less z l (Some y) (p, e) = (e ∙ sym (after_back z (λ f. omega arith)), omega arith)

  -- what stays in its piece has not moved back
  pub stays_some : {j : ℕ} → i < pieces → j ≡ piece_after pieces i long x → i ≡ j → 1 ≤ x
  stays_some l p e =
      elim (same x 0) [
        | inl z ↦ elim (same i 0) [ inl f ↦ absurd (omega (arith, p, after_none z f)) | inr f ↦ absurd (omega (arith, p, after_back z f)) ]
        | inr z ↦ omega arith
      ]

module _ (i x j there : ℕ) where
  pub number_back : j < i → number_after i x j there ≡ there - 1
  unfolding number_after
  number_back l = rw (lt-ltb j i l)

  pub number_on : i < j → number_after i x j there ≡ 0
  unfolding number_after
  number_on l = rw (le-ltb j i (omega arith), lt-ltb i j l)

  pub number_within : i ≡ j → number_after i x j there ≡ x - 1
  unfolding number_after
  number_within e = rw (le-ltb j i (omega arith), le-ltb i j (omega arith))

-- ---- from number r of piece i of a line in k pieces of the lengths f 0, f 1, .., moved by u less one

module _ (f : ℕ → ℕ) (k i r u : ℕ) (li : i < k) (lr : r < f i) (lu : u ≤ 2) (some : (j : ℕ) → j < k → 0 < f j) where
  -- to a piece of the line
  pub line_moved : {j s : ℕ} → j ≡ piece_after k i (f i) (r + u) → j < k → s ≡ number_after i (r + u) j (f j) → Moved f k i r u j s
  line_moved {j} {s} p l n =
      elim (same (r + u) 0) [
        | inl z ↦ elim (same i 0) [
          | inl e ↦ absurd (omega (arith, p, after_none k i (f i) (r + u) z e))
          | inr e ↦
              let back : suc j ≡ i = omega (arith, p, after_back k i (f i) (r + u) z e) in
              rw (n ∙ number_back i (r + u) j (f j) (omega arith)) (moved_back f k i r u j li back z (some j l))
        ]
        | inr z ↦ elim (below (f i) (r + u)) [
          | inl m ↦
              let on : suc i ≡ j = omega (arith, p, after_on k i (f i) (r + u) z m) in
              rw (n ∙ number_on i (r + u) j (f j) (omega arith), ← on) (moved_on f k i r u (omega arith) lr lu m (rw on (some j l)))
          | inr m ↦
              let stay : i ≡ j = omega (arith, p, after_within k i (f i) (r + u) z m) in
              rw (n ∙ number_within i (r + u) j (f j) stay, ← stay) (moved_within f k i r u li (omega arith) m)
        ]
      ]

  -- or over an end of the line
  pub line_off : {j : ℕ} → j ≡ piece_after k i (f i) (r + u) → k ≤ j → ((i ≡ 0) × (r + u ≡ 0)) ⊎ ((suc i ≡ k) × (f i < r + u))
  line_off {j} p l =
      elim (same (r + u) 0) [
        | inl z ↦ elim (same i 0) [ inl e ↦ inl (e, z) | inr e ↦ absurd (omega (arith, p, after_back k i (f i) (r + u) z e)) ]
        | inr z ↦ elim (below (f i) (r + u)) [
          | inl m ↦ inr (omega (arith, p, after_on k i (f i) (r + u) z m), m)
          | inr m ↦ absurd (omega (arith, p, after_within k i (f i) (r + u) z m))
        ]
      ]
