-- The number of the border cell in row r and column c, for each way through the code that computes it.
-- Assumes nothing.
use mathlib.Core.Path.{◌≡◌, ap, ◌∙◌}
use mathlib.Core.Bool.{true, cond}
use mathlib.Core.Logic.{inl, inr}
use Prim.Native.Nat.{ℕ, suc, ◌+◌, ◌-◌, ◌*◌, ◌≤◌, ◌<◌}
use native.Mathlib.Omega.{arith}
use lib.Dec.{eqb}
use borrow.Author.Tests.{eq-eqb, ne_eqb}
use Rattle.flow.proofs.Sum.{same}
use Rattle.tile.specs.Border.{edge_at, border_number}
use Rattle.tile.proofs.Edge.{edge_is_right}
use Rattle.tile.proofs.Rows.{number_row, row_whole, row_some, number_none, number_thin_start, number_start}

module _ (rows cols r c : ℕ) where
  pub number_thin : cols ≡ 1 → c ≡ 0 → border_number rows cols (r * cols + c) ≡ r
  number_thin z e = let s : r * cols + c ≡ r * cols = omega arith in ap (border_number rows cols) s ∙ number_thin_start rows cols z r

  pub number_top : r ≡ 0 → c ≤ cols → border_number rows cols (r * cols + c) ≡ c
  number_top e l = omega (arith, number_row rows cols r c l, ap (λ (x : ℕ). border_number rows cols (x * cols)) e, number_none rows cols, row_whole rows cols r (inl e) c)

  module _ (z : 1 < cols) (a : 0 < r) where
    pub number_foot : suc r ≡ rows → c ≤ cols → border_number rows cols (r * cols + c) ≡ cols + 2 * (r - 1) + c
    number_foot e l = omega (arith, number_row rows cols r c l, number_start rows cols r z a (omega arith), row_whole rows cols r (inr e) c)

    pub number_left : suc r < rows → c ≡ 0 → border_number rows cols (r * cols + c) ≡ cols + 2 * (r - 1)
    number_left b e = let s : r * cols + c ≡ r * cols = omega arith in ap (border_number rows cols) s ∙ number_start rows cols r z a (omega arith)

    pub number_right : suc r < rows → suc c ≡ cols → border_number rows cols (r * cols + c) ≡ cols + 2 * (r - 1) + 1
    number_right b e = omega (arith, number_row rows cols r c (omega arith), number_start rows cols r z a (omega arith), row_some rows cols r a b c (omega arith) (omega arith))

  -- all of them
  pub number_closed : r < rows → c < cols → edge_at rows cols r c ≡ true
      → border_number rows cols (r * cols + c)
      ≡ cond (eqb cols 1) r (cond (eqb r 0) c (cond (eqb (suc r) rows) (cols + 2 * (r - 1) + c) (cond (eqb c 0) (cols + 2 * (r - 1)) (cols + 2 * (r - 1) + 1))))
  number_closed lr lc on_edge =
      elim (same cols 1) [
        | inl z ↦ rw (eq-eqb cols 1 z) (number_thin z (omega arith))
        | inr z ↦ rw (ne_eqb cols 1 z) (elim (same r 0) [
          | inl t ↦ rw (eq-eqb r 0 t) (number_top t (omega arith))
          | inr t ↦ rw (ne_eqb r 0 t) (elim (same (suc r) rows) [
            | inl f ↦ rw (eq-eqb (suc r) rows f) (number_foot (omega arith) (omega arith) f (omega arith))
            | inr f ↦ rw (ne_eqb (suc r) rows f) (elim (same c 0) [
              | inl g ↦ rw (eq-eqb c 0 g) (number_left (omega arith) (omega arith) (omega arith) g)
              | inr g ↦ rw (ne_eqb c 0 g) (number_right (omega arith) (omega arith) (omega arith) (edge_is_right rows cols r c on_edge t f g))
            ])
          ])
        ])
      ]
