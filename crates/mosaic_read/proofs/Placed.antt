-- The position of record t and its agreement with the records before it, for each way through the code that tests it.
-- Assumes nothing.
use mathlib.Core.List.{List}
use mathlib.Core.Path.{◌≡◌, sym, ap, ◌∙◌}
use Prim.Native.Nat.{ℕ, ◌+◌, ◌*◌, ◌/◌, ◌%◌, ◌≤◌, ◌<◌}
use native.Mathlib.Omega.{arith}
use Rattle.flow.proofs.Sum.{sum_suc}
use Rattle.mosaic_read.specs.Records.{start_of, rows_at, cols_at, tile_row_at, tile_col_at, rows_of, cols_of, heights, widths, PlacedOk}
use Rattle.mosaic_read.specs.Method.{Reached}

module _ {bytes : List ℕ} {J t o above left : ℕ} (r : Reached bytes J t o above left) where
  -- the sides, as they are read at two starts
  module _ {rows first height : ℕ} (rows_is : rows ≡ rows_at bytes o) (first_is : first ≡ start_of bytes (t / J * J)) (height_is : height ≡ rows_at bytes first) where
    rows_of_lem : rows ≡ rows_of bytes t
    rows_of_lem = rows_is ∙ ap (rows_at bytes) r.start

    height_of_lem : height ≡ heights bytes J (t / J)
    unfolding heights
    height_of_lem = height_is ∙ ap (rows_at bytes) first_is

    pub not_height : (rows ≡ height → ⊥) → PlacedOk bytes J t → ⊥
    not_height n h = n (rows_of_lem ∙ h.height ∙ sym height_of_lem)

    pub too_high : 4096 < above + rows → PlacedOk bytes J t → ⊥
    too_high l h = omega (arith, r.above_is, rows_of_lem, h.height, h.rows_most, sum_suc (t / J) (heights bytes J))

  module _ {cols first width : ℕ} (cols_is : cols ≡ cols_at bytes o) (first_is : first ≡ start_of bytes (t % J)) (width_is : width ≡ cols_at bytes first) where
    cols_of_lem : cols ≡ cols_of bytes t
    cols_of_lem = cols_is ∙ ap (cols_at bytes) r.start

    width_of : width ≡ widths bytes (t % J)
    unfolding widths
    width_of = width_is ∙ ap (cols_at bytes) first_is

    pub not_width : (cols ≡ width → ⊥) → PlacedOk bytes J t → ⊥
    not_width n h = n (cols_of_lem ∙ h.width ∙ sym width_of)

    pub too_wide : 4096 < left + cols → PlacedOk bytes J t → ⊥
    too_wide l h = omega (arith, r.left_is, cols_of_lem, h.width, h.cols_most, sum_suc (t % J) (widths bytes))

  -- all of it
  pub placed : {row col rows cols top height side width : ℕ} → row ≡ tile_row_at bytes o → row ≡ t / J → col ≡ tile_col_at bytes o → col ≡ t % J
      → rows ≡ rows_at bytes o → top ≡ start_of bytes (t / J * J) → height ≡ rows_at bytes top → rows ≡ height
      → cols ≡ cols_at bytes o → side ≡ start_of bytes (t % J) → width ≡ cols_at bytes side → cols ≡ width
      → above + rows ≤ 4096 → left + cols ≤ 4096 → PlacedOk bytes J t
  placed row_is row col_is col rows_is top_is height_is same_height cols_is side_is width_is same_width_lem high wide =
      let tall : rows_of bytes t ≡ heights bytes J (t / J) = sym (rows_of_lem rows_is top_is height_is) ∙ same_height ∙ height_of_lem rows_is top_is height_is in
      let broad : cols_of bytes t ≡ widths bytes (t % J) = sym (cols_of_lem cols_is side_is width_is) ∙ same_width_lem ∙ width_of cols_is side_is width_is in
      record {
        row = ap (tile_row_at bytes) (sym r.start) ∙ sym row_is ∙ row;
        col = ap (tile_col_at bytes) (sym r.start) ∙ sym col_is ∙ col;
        height = tall;
        width = broad;
        rows_most = omega (arith, r.above_is, rows_of_lem rows_is top_is height_is, tall, sum_suc (t / J) (heights bytes J));
        cols_most = omega (arith, r.left_is, cols_of_lem cols_is side_is width_is, broad, sum_suc (t % J) (widths bytes));
      }
