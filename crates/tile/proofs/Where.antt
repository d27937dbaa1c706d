-- Where border cell b stands, for each way through the code that finds it.
-- Assumes nothing.
use mathlib.Core.Path.{◌≡◌, refl, sym, ap, ◌∙◌}
use mathlib.Core.Bool.{true, cond}
use mathlib.Core.Logic.{inl, inr}
use Prim.Native.Nat.{ℕ, ◌+◌, ◌-◌, ◌*◌, ◌/◌, ◌%◌, ◌≤◌, ◌<◌}
use native.Mathlib.Omega.{arith}
use lib.Dec.{eqb, ltb}
use borrow.Author.Tests.{eq-eqb, ne_eqb, lt-ltb, le-ltb}
use Rattle.flow.proofs.Sum.{same}
use Rattle.flow.proofs.Walk.{below}
use Rattle.sheet.specs.Leaves.{SpotIs}
use Rattle.sheet.proofs.Places.{place_lt, row_of, col_of}
use Rattle.tile.specs.Border.{edge_at, border_cells, border_number, border_place}
use Rattle.tile.proofs.Edge.{edge_top, edge_foot, edge_left, edge_right, border_at}
use Rattle.tile.proofs.Borders.{number_place}
use Rattle.tile.proofs.Numbers.{number_thin, number_top, number_foot, number_left, number_right}
use Rattle.tile.proofs.Cells.{cells_thin, cells_flat, cells_round}

-- border cell b stands in row r and column c
pub record At (rows cols b r c : ℕ) : Type 0 where
  pub row_in : r < rows
  pub col_in : c < cols
  pub place_is : r * cols + c ≡ border_place rows cols b

-- as a spot
pub at_spot : {rows cols b r c : ℕ} → At rows cols b r c → SpotIs rows cols (record { row = r; col = c }) (border_place rows cols b)
at_spot a = record { place_is = a.place_is; row_in = a.row_in; col_in = a.col_in }

module _ (rows cols b : ℕ) where
  -- the border cell that has the number b is border cell b
  at : {r c : ℕ} → r < rows → c < cols → edge_at rows cols r c ≡ true → border_number rows cols (r * cols + c) ≡ b → At rows cols b r c
  at {r} {c} lr lc e n = record {
    row_in = lr;
    col_in = lc;
    place_is = sym (number_place rows cols (r * cols + c) (place_lt rows cols r c lr lc) (border_at rows cols r c lc ∙ e)) ∙ ap (border_place rows cols) n;
  }

  module _ (l : b < border_cells rows cols) where
    -- with one column, in row b
    pub at_thin : cols ≡ 1 → At rows cols b b 0
    at_thin z = at (omega (arith, cells_thin rows cols z)) (omega arith) (edge_left rows cols b 0 refl) (number_thin rows cols b 0 z refl)

    module _ (some : 0 < rows) (z : 1 < cols) where
      -- in the first row
      pub at_top : b < cols → At rows cols b 0 b
      at_top h = at some h (edge_top rows cols 0 b refl) (number_top rows cols 0 b refl (omega arith))

      module _ (h : cols ≤ b) where
        -- past it there is another row
        pub rows_more : 1 < rows
        rows_more = elim (same rows 1) [ inl f ↦ absurd (omega (arith, cells_flat rows cols f)) | inr f ↦ omega arith ]

        -- and there are this many
        pub cells_more : border_cells rows cols ≡ 2 * rows + 2 * cols - 4
        cells_more = cells_round rows cols rows_more z

        -- at either end of a row between
        pub at_left : b - cols < 2 * (rows - 2) → (b - cols) % 2 ≡ 0 → At rows cols b ((b - cols) / 2 + 1) 0
        at_left k e =
            at (omega arith) (omega arith) (edge_left rows cols ((b - cols) / 2 + 1) 0 refl)
            (number_left rows cols ((b - cols) / 2 + 1) 0 z (omega arith) (omega arith) refl ∙ omega arith)

        pub at_right : b - cols < 2 * (rows - 2) → ((b - cols) % 2 ≡ 0 → ⊥) → At rows cols b ((b - cols) / 2 + 1) (cols - 1)
        at_right k e =
            at (omega arith) (omega arith) (edge_right rows cols ((b - cols) / 2 + 1) (cols - 1) (omega arith))
            (number_right rows cols ((b - cols) / 2 + 1) (cols - 1) z (omega arith) (omega arith) (omega arith) ∙ omega arith)

        -- in the last row
        pub at_foot : 2 * (rows - 2) ≤ b - cols → At rows cols b (rows - 1) (b - cols - 2 * (rows - 2))
        at_foot k =
            at (omega (arith, rows_more)) (omega (arith, rows_more, cells_more)) (edge_foot rows cols (rows - 1) (b - cols - 2 * (rows - 2)) (omega arith))
            (number_foot rows cols (rows - 1) (b - cols - 2 * (rows - 2)) z (omega (arith, rows_more)) (omega arith) (omega (arith, rows_more, cells_more)) ∙ omega (arith, rows_more))

-- ---- all of them

abbrev pub row_at : ℕ → ℕ → ℕ → ℕ
row_at rows cols b = cond (eqb cols 1) b (cond (ltb b cols) 0 (cond (ltb (b - cols) (2 * (rows - 2))) ((b - cols) / 2 + 1) (rows - 1)))

abbrev pub col_at : ℕ → ℕ → ℕ → ℕ
col_at rows cols b =
    cond (eqb cols 1) 0 (cond (ltb b cols) b (cond (ltb (b - cols) (2 * (rows - 2))) (cond (eqb ((b - cols) % 2) 0) 0 (cols - 1)) (b - cols - 2 * (rows - 2))))

module _ (rows cols b : ℕ) (lr : 0 < rows) (lc : 0 < cols) (l : b < border_cells rows cols) where
  pub at_closed : At rows cols b (row_at rows cols b) (col_at rows cols b)
  at_closed =
      elim (same cols 1) [
        | inl z ↦ rw (eq-eqb cols 1 z) (at_thin rows cols b l z)
        | inr z ↦ rw (ne_eqb cols 1 z) (elim (below b cols) [
          | inl t ↦ rw (lt-ltb b cols t) (at_top rows cols b l lr (omega arith) t)
          | inr t ↦ rw (le-ltb b cols t) (elim (below (b - cols) (2 * (rows - 2))) [
            | inl k ↦ rw (lt-ltb (b - cols) (2 * (rows - 2)) k) (elim (same ((b - cols) % 2) 0) [
              | inl e ↦ rw (eq-eqb ((b - cols) % 2) 0 e) (at_left rows cols b l lr (omega arith) t k e)
              | inr e ↦ rw (ne_eqb ((b - cols) % 2) 0 e) (at_right rows cols b l lr (omega arith) t k e)
            ])
            | inr k ↦ rw (le-ltb (b - cols) (2 * (rows - 2)) k) (at_foot rows cols b l lr (omega arith) t k)
          ])
        ])
      ]

  pub row_closed : border_place rows cols b / cols ≡ row_at rows cols b
  row_closed = ap (λ (p : ℕ). p / cols) (sym at_closed.place_is) ∙ row_of cols (row_at rows cols b) (col_at rows cols b) at_closed.col_in

  pub col_closed : border_place rows cols b % cols ≡ col_at rows cols b
  col_closed = ap (λ (p : ℕ). p % cols) (sym at_closed.place_is) ∙ col_of cols (row_at rows cols b) (col_at rows cols b) at_closed.col_in
