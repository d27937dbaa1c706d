-- Two tellings of a mosaic's sides that agree on its tile rows and tile columns tell one mosaic: the records of a mosaic tell its sides again.
-- Assumes nothing.
use mathlib.Core.List.{List}
use mathlib.Core.Path.{◌≡◌, sym, ap, ap₂, ◌∙◌}
use Prim.Native.Nat.{ℕ, ◌*◌, ◌/◌, ◌%◌, ◌<◌, ◌≤◌}
use native.Mathlib.Omega.{arith}
use Rattle.flow.specs.Net.{sum}
use Rattle.flow.proofs.Sum.{sum_ext}
use Rattle.mosaic.specs.Layout.{Fits, Cut, sheet_rows, sheet_cols, height_of, width_of, cells_in, sheet_place, borders_in, borders_before, all_borders}
use Rattle.mosaic.proofs.Pieces.{row_in, col_in}
use Rattle.sheet.specs.Sheet.{code_at}
use Rattle.tile.specs.Border.{border_cells}

module _ (I J : ℕ) (hs ws ks vs : ℕ → ℕ) (same_height : (i : ℕ) → i < I → ks i ≡ hs i) (same_width_lem : (j : ℕ) → j < J → vs j ≡ ws j) where
  pub rows_agree : sheet_rows I ks ≡ sheet_rows I hs
  rows_agree = sum_ext same_height

  pub cols_agree : sheet_cols J vs ≡ sheet_cols J ws
  cols_agree = sum_ext same_width_lem

  pub height_agree : (t : ℕ) → t < I * J → height_of J ks t ≡ height_of J hs t
  height_agree t l = same_height (t / J) (row_in I J t l)

  pub width_agree : (t : ℕ) → t < I * J → width_of J vs t ≡ width_of J ws t
  width_agree t l = same_width_lem (t % J) (col_in I J t l)

  pub cells_agree : (t : ℕ) → t < I * J → cells_in J ks vs t ≡ cells_in J hs ws t
  cells_agree t l = ap₂ (λ (a b : ℕ). a * b) (height_agree t l) (width_agree t l)

  pub at_agree : (t x : ℕ) → t < I * J → sheet_place I J ks vs t x ≡ sheet_place I J hs ws t x
  unfolding sheet_place
  at_agree t x l =
      let above : sum (t / J) ks ≡ sum (t / J) hs = sum_ext (λ i li. same_height i (omega (arith, row_in I J t l))) in
      let left : sum (t % J) vs ≡ sum (t % J) ws = sum_ext (λ j lj. same_width_lem j (omega (arith, col_in I J t l))) in
      rw (above, left, cols_agree, width_agree t l)

  pub borders_agree : (t : ℕ) → t < I * J → borders_in J ks vs t ≡ borders_in J hs ws t
  unfolding borders_in
  borders_agree t l = ap₂ border_cells (height_agree t l) (width_agree t l)

  pub before_agree : (t : ℕ) → t ≤ I * J → borders_before J ks vs t ≡ borders_before J hs ws t
  before_agree t l = sum_ext (λ u lu. borders_agree u (omega arith))

  pub all_agree : all_borders I J ks vs ≡ all_borders I J hs ws
  all_agree = before_agree (I * J) (omega arith)

  pub fits_agree : Fits I J hs ws → Fits I J ks vs
  fits_agree f = record {
    some_row = f.some_row;
    some_col = f.some_col;
    tiles_most = f.tiles_most;
    heights = λ i l. (omega (arith, same_height i l, (f.heights i l).0), omega (arith, same_height i l, (f.heights i l).1));
    widths = λ j l. (omega (arith, same_width_lem j l, (f.widths j l).0), omega (arith, same_width_lem j l, (f.widths j l).1));
    rows_most = omega (arith, rows_agree, f.rows_most);
    cols_most = omega (arith, cols_agree, f.cols_most);
  }

  pub cut_agree : {sheet : List ℕ} {tiles : ℕ → List ℕ} → Cut I J hs ws sheet tiles → Cut I J ks vs sheet tiles
  cut_agree {sheet} c = record {
    sheet_long = c.sheet_long ∙ sym (ap₂ (λ (a b : ℕ). a * b) rows_agree cols_agree);
    tile_long = λ t l. c.tile_long t l ∙ sym (cells_agree t l);
    codes = λ t x l lx. c.codes t x l (rw (cells_agree t l) at lx) ∙ ap (code_at sheet) (sym (at_agree t x l));
  }
