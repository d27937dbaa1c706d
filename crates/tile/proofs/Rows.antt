-- The border cells counted row by row: the first row and the last are border cells throughout, each other row has its first cell and its
-- last.
-- Assumes nothing.
use mathlib.Core.Path.{◌≡◌, refl, ap, ◌∙◌}
use mathlib.Core.Logic.{◌⊎◌, inl, inr}
use Prim.Native.Nat.{ℕ, zero, suc, ◌+◌, ◌-◌, ◌*◌, ◌≤◌, ◌<◌}
use native.Mathlib.Omega.{arith}
use native.Mathlib.Nat.{suc-mul, zero-mul}
use Rattle.flow.specs.Net.{on, sum, number}
use Rattle.flow.proofs.Sum.{on_true, on_false, sum_suc, sum_ext, sum_ones}
use Rattle.tile.specs.Border.{edge_at, border_number}
use Rattle.tile.proofs.Edge.{edge_top, edge_foot, edge_left, edge_right, edge_inner, border_at}

module _ (rows cols : ℕ) where
  -- ---- along a row

  -- how many of the first c cells of row r are border cells
  abbrev pub in_row : ℕ → ℕ → ℕ
  in_row r c = number c (edge_at rows cols r)

  pub number_row : (r c : ℕ) → c ≤ cols → border_number rows cols (r * cols + c) ≡ border_number rows cols (r * cols) + in_row r c
  unfolding border_number sum
  number_row r zero l = let e : r * cols + 0 ≡ r * cols = omega arith in rw e (omega arith)
  number_row r (suc c) l =
      let e : r * cols + suc c ≡ suc (r * cols + c) = omega arith in
      rw e (omega (arith, number_row r c (omega arith), ap (λ b. on b 1) (border_at rows cols r c (omega arith))))

  -- the first row and the last are border cells throughout
  pub row_whole : (r : ℕ) → (r ≡ 0) ⊎ (suc r ≡ rows) → (c : ℕ) → in_row r c ≡ c
  row_whole r (inl e) c = sum_ext (λ q l. on_true 1 (edge_top rows cols r q e)) ∙ sum_ones c
  row_whole r (inr e) c = sum_ext (λ q l. on_true 1 (edge_foot rows cols r q e)) ∙ sum_ones c

  -- of any other row the first cell and the last
  module _ (r : ℕ) (a : 0 < r) (b : suc r < rows) where
    pub row_some : (c : ℕ) → 0 < c → c < cols → in_row r c ≡ 1
    unfolding sum
    row_some zero l m = absurd (omega arith)
    row_some (suc zero) l m = omega (arith, on_true 1 (edge_left rows cols r 0 refl))
    row_some (suc (suc c)) l m =
        omega (arith, row_some (suc c) (omega arith) (omega arith), on_false 1 (edge_inner rows cols r (suc c) (omega arith) (omega arith) (omega arith) (omega arith)))

    row_two : 1 < cols → in_row r cols ≡ 2
    row_two l =
        let e : cols ≡ suc (cols - 1) = omega arith in
        ap (in_row r) e ∙ omega (arith, sum_suc (cols - 1) (λ q. on (edge_at rows cols r q) 1), row_some (cols - 1) (omega arith) (omega arith), on_true 1 (edge_right rows cols r (cols - 1) (omega arith)))

  -- ---- row by row

  pub number_none : border_number rows cols (0 * cols) ≡ 0
  unfolding border_number sum
  number_none = rw zero-mul

  pub number_next : (r : ℕ) → border_number rows cols (suc r * cols) ≡ border_number rows cols (r * cols) + in_row r cols
  number_next r = ap (border_number rows cols) (suc-mul r cols) ∙ number_row r cols (omega arith)

  -- with one column each row has one
  pub number_thin_start : cols ≡ 1 → (r : ℕ) → border_number rows cols (r * cols) ≡ r
  unfolding sum
  number_thin_start z zero = number_none
  number_thin_start z (suc r) =
      omega (arith, number_next r, number_thin_start z r, ap (in_row r) z, on_true 1 (edge_left rows cols r 0 refl))

  -- before row r: the first row, and two cells of each row after it
  pub number_start : (r : ℕ) → 1 < cols → 0 < r → r < rows → border_number rows cols (r * cols) ≡ cols + 2 * (r - 1)
  number_start zero l a b = absurd (omega arith)
  number_start (suc zero) l a b = omega (arith, number_next 0, number_none, row_whole 0 (inl refl) cols)
  number_start (suc (suc r)) l a b =
      omega (arith, number_next (suc r), number_start (suc r) l (omega arith) (omega arith), row_two (suc r) (omega arith) b l)
