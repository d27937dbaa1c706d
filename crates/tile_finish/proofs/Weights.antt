-- What the cells of a tile add, with what comes in: it is what the method counts with, and it fits into 32 bits.
-- Assumes nothing.
use mathlib.Core.Bool.{false}
use mathlib.Core.List.{List}
use mathlib.Core.Logic.{inl, inr}
use mathlib.Core.Path.{◌≡◌, ap, ◌∙◌}
use Prim.Native.Nat.{ℕ, ◌+◌, ◌*◌, ◌<◌, ◌≤◌}
use native.Mathlib.Nat.{mul-le-mul}
use native.Mathlib.Omega.{arith}
use Rattle.scan.specs.Scan.{weight, WeightsFit}
use Rattle.flow.specs.Net.{on, sum}
use Rattle.flow.proofs.Sum.{test, on_true, on_false, sum_add, sum_mono, sum_ones, sum_times}
use Rattle.sheet.specs.Shape.{TileShape}
use Rattle.sheet.specs.Sheet.{land_at, unit, count_at}
use Rattle.tile.specs.Border.{on_border, border_cells, border_number}
use Rattle.tile.proofs.Borders.{number_below, number_place}
use Rattle.tile.proofs.Cells.{cells_most}
use Rattle.tile_finish.specs.Finish.{IncomingOk, comes_at}
use Rattle.tile_finish.specs.Method.{Spread}
use Rattle.tile_finish.proofs.Laying.{comes_on, comes_off, spread_all}

module _ (rows cols : ℕ) (g incoming : List ℕ) (ok : (b : ℕ) → b < border_cells rows cols → IncomingOk rows cols g incoming b) where
  -- nothing comes in at an absent cell
  pub absent_none : (p : ℕ) → p < rows * cols → land_at g p ≡ false → comes_at rows cols incoming p ≡ 0
  absent_none p l a = elim (test (on_border rows cols p)) [
    | inl t ↦ comes_on rows cols incoming p t
        ∙ (ok (border_number rows cols p) (number_below rows cols p l t)).absent_none (ap (land_at g) (number_place rows cols p l t) ∙ a)
    | inr t ↦ comes_off rows cols incoming p t
  ]

  pub comes_most : (p : ℕ) → p < rows * cols → comes_at rows cols incoming p ≤ 4194304 * on (on_border rows cols p) 1
  comes_most p l = elim (test (on_border rows cols p)) [
    | inl t ↦ omega (arith, comes_on rows cols incoming p t, (ok (border_number rows cols p) (number_below rows cols p l t)).most, on_true 1 t)
    | inr t ↦ omega (arith, comes_off rows cols incoming p t)
  ]

  module _ (work : List ℕ) (laid : Spread rows cols incoming work (border_cells rows cols)) where
    -- what the method adds at a cell
    pub weight_is : (p : ℕ) → p < rows * cols → weight g work p ≡ unit g p + comes_at rows cols incoming p
    weight_is p l = elim (test (land_at g p)) [
      | inl t ↦ omega (arith, on_true (1 + count_at work p) t, on_true 1 t, spread_all rows cols incoming laid p l)
      | inr t ↦ omega (arith, on_false (1 + count_at work p) t, on_false 1 t, absent_none p l t)
    ]

    -- at most 65,536 cells add 1, and at most 1,020 border cells 4,194,304
    pub weights_fit : TileShape rows cols → WeightsFit rows cols g work
    unfolding border_cells
    weights_fit shape =
        let most : sum (rows * cols) (weight g work) ≤ sum (rows * cols) (λ p. 1 + 4194304 * on (on_border rows cols p) 1) = sum_mono (λ p l. omega (arith, weight_is p l, comes_most p l, unit_le p)) in
        omega (
          arith,
          most,
          sum_add (rows * cols) (λ p. 1) (λ p. 4194304 * on (on_border rows cols p) 1),
          sum_ones (rows * cols),
          sum_times (rows * cols) 4194304 (λ p. on (on_border rows cols p) 1),
          cells_most rows cols shape,
          mul-le-mul shape.rows_most shape.cols_most,
        )
      where
        unit_le : (p : ℕ) → unit g p ≤ 1
        unit_le p = elim (test (land_at g p)) [ inl t ↦ omega (arith, on_true 1 t) | inr t ↦ omega (arith, on_false 1 t) ]
