-- How many border cells a tile has.
-- Assumes nothing.
use mathlib.Core.Path.{◌≡◌, refl, sym, ap, ◌∙◌}
use mathlib.Core.Bool.{cond}
use mathlib.Core.Logic.{inl, inr}
use Prim.Native.Nat.{ℕ, suc, ◌+◌, ◌-◌, ◌*◌, ◌≤◌, ◌<◌}
use native.Mathlib.Omega.{arith}
use lib.Dec.{eqb}
use borrow.Author.Tests.{eq-eqb, ne_eqb}
use Rattle.flow.proofs.Sum.{same}
use Rattle.sheet.specs.Shape.{TileShape}
use Rattle.tile.specs.Border.{border_cells, border_number}
use Rattle.tile.proofs.Rows.{row_whole, number_none, number_next, number_thin_start, number_start}

module _ (rows cols : ℕ) where
  cells_number : border_cells rows cols ≡ border_number rows cols (rows * cols)
  unfolding border_cells border_number
  cells_number = refl

  -- with one column, and with one row, all
  pub cells_thin : cols ≡ 1 → border_cells rows cols ≡ rows
  cells_thin z = cells_number ∙ number_thin_start rows cols z rows

  pub cells_flat : rows ≡ 1 → border_cells rows cols ≡ cols
  cells_flat e = cells_number ∙ omega (arith, ap (λ (x : ℕ). border_number rows cols (x * cols)) e, number_next rows cols 0, number_none rows cols, row_whole rows cols 0 (inl refl) cols)

  -- otherwise each corner is counted once
  pub cells_round : 1 < rows → 1 < cols → border_cells rows cols ≡ 2 * rows + 2 * cols - 4
  cells_round a z =
      let e : rows ≡ suc (rows - 1) = omega arith in
      cells_number ∙ omega (
        arith,
        ap (λ (x : ℕ). border_number rows cols (x * cols)) e,
        number_next rows cols (rows - 1),
        number_start rows cols (rows - 1) z (omega arith) (omega arith),
        row_whole rows cols (rows - 1) (inr (sym e)) cols,
      )

  pub cells_closed : 0 < rows → 0 < cols → border_cells rows cols ≡ cond (eqb cols 1) rows (cond (eqb rows 1) cols (2 * rows + 2 * cols - 4))
  cells_closed lr lc =
      elim (same cols 1) [
        | inl z ↦ rw (eq-eqb cols 1 z) (cells_thin z)
        | inr z ↦ rw (ne_eqb cols 1 z) (elim (same rows 1) [
          | inl f ↦ rw (eq-eqb rows 1 f) (cells_flat f)
          | inr f ↦ rw (ne_eqb rows 1 f) (cells_round (omega arith) (omega arith))
        ])
      ]

  -- not more than 1,020
  pub cells_most : TileShape rows cols → border_cells rows cols ≤ 1020
  cells_most s =
      elim (same cols 1) [
        | inl z ↦ omega (arith, cells_thin z)
        | inr z ↦ elim (same rows 1) [ inl f ↦ omega (arith, cells_flat f) | inr f ↦ omega (arith, cells_round (omega arith) (omega arith)) ]
      ]
