-- A sheet cut by full rows and columns: the row and the column on the sheet of each cell of a tile, and the tile, row and column of each cell of the sheet.
-- Assumes nothing.
use mathlib.Core.Path.{◌≡◌, sym, ap, ap₂, ◌∙◌}
use Prim.Native.Nat.{ℕ, ◌+◌, ◌-◌, ◌*◌, ◌/◌, ◌%◌, ◌<◌}
use native.Mathlib.Omega.{arith}
use Rattle.flow.specs.Net.{sum}
use Rattle.flow.proofs.Part.{Places}
use Rattle.sheet.proofs.Places.{place_lt, row_of, col_of}
use Rattle.mosaic.specs.Layout.{sheet_rows, sheet_cols, height_of, width_of, cells_in, spot_at, sheet_place, piece}
use Rattle.mosaic.proofs.Pieces.{row_in, col_in, spot_is, same_spot, Lies, piece_is, piece_at, piece_below}

module _ (I J : ℕ) (hs ws : ℕ → ℕ) where
  -- the number of cells of the sheet
  abbrev N : ℕ
  N = sheet_rows I hs * sheet_cols J ws

  -- ---- row r and column c of tile t

  module _ (t r c : ℕ) (lt : t < I * J) (lr : r < height_of J hs t) (lc : c < width_of J ws t) where
    pub spot_row_in : sum (t / J) hs + r < sheet_rows I hs
    spot_row_in = piece_below hs I (t / J) r (row_in I J t lt) lr

    pub spot_col_in : sum (t % J) ws + c < sheet_cols J ws
    spot_col_in = piece_below ws J (t % J) c (col_in I J t lt) lc

    -- its row and its column on the sheet
    pub spot_row : spot_at J hs ws t r c / sheet_cols J ws ≡ sum (t / J) hs + r
    spot_row = row_of (sheet_cols J ws) (sum (t / J) hs + r) (sum (t % J) ws + c) spot_col_in

    pub spot_col : spot_at J hs ws t r c % sheet_cols J ws ≡ sum (t % J) ws + c
    spot_col = col_of (sheet_cols J ws) (sum (t / J) hs + r) (sum (t % J) ws + c) spot_col_in

    pub spot_below : spot_at J hs ws t r c < N
    spot_below = place_lt (sheet_rows I hs) (sheet_cols J ws) _ _ spot_row_in spot_col_in

    -- its place in the tile
    pub spot_place : r * width_of J ws t + c < cells_in J hs ws t
    spot_place = place_lt (height_of J hs t) (width_of J ws t) r c lr lc

    pub spot_at_lem : sheet_place I J hs ws t (r * width_of J ws t + c) ≡ spot_at J hs ws t r c
    unfolding sheet_place
    spot_at_lem = ap₂ (spot_at J hs ws t) (row_of (width_of J ws t) r c lc) (col_of (width_of J ws t) r c lc)

  -- ---- place x of tile t

  module _ (t x : ℕ) (lt : t < I * J) (lx : x < cells_in J hs ws t) where
    pub tile_row : sheet_place I J hs ws t x / sheet_cols J ws ≡ sum (t / J) hs + x / width_of J ws t
    unfolding sheet_place
    tile_row = spot_row t _ _ lt (row_in _ _ x lx) (col_in _ _ x lx)

    pub tile_col : sheet_place I J hs ws t x % sheet_cols J ws ≡ sum (t % J) ws + x % width_of J ws t
    unfolding sheet_place
    tile_col = spot_col t _ _ lt (row_in _ _ x lx) (col_in _ _ x lx)

    pub tile_below : sheet_place I J hs ws t x < N
    unfolding sheet_place
    tile_below = spot_below t _ _ lt (row_in _ _ x lx) (col_in _ _ x lx)

  -- ---- the tile of a place of the sheet

  unfoldable pub tile_of : ℕ → ℕ
  tile_of p = piece hs I (p / sheet_cols J ws) * J + piece ws J (p % sheet_cols J ws)

  pub tile_is : (t x : ℕ) → t < I * J → x < cells_in J hs ws t → tile_of (sheet_place I J hs ws t x) ≡ t
  unfolding tile_of
  tile_is t x lt lx =
      ap₂ (λ (i j : ℕ). i * J + j)
      (ap (piece hs I) (tile_row t x lt lx) ∙ piece_at hs I (t / J) (x / width_of J ws t) (row_in I J t lt) (row_in _ _ x lx))
      (ap (piece ws J) (tile_col t x lt lx) ∙ piece_at ws J (t % J) (x % width_of J ws t) (col_in I J t lt) (col_in _ _ x lx))
      ∙ spot_is J t

  -- two tiles have no cell together
  pub same_tile_lem : (t u x y : ℕ) → t < I * J → u < I * J → x < cells_in J hs ws t → y < cells_in J hs ws u → sheet_place I J hs ws t x ≡ sheet_place I J hs ws u y → t ≡ u
  same_tile_lem t u x y lt lu lx ly e = sym (tile_is t x lt lx) ∙ ap tile_of e ∙ tile_is u y lu ly

  -- and a tile has each of its cells once
  pub tile_places : (t : ℕ) → t < I * J → Places (cells_in J hs ws t) N (sheet_place I J hs ws t)
  tile_places t lt = record {
    into = λ x lx. tile_below t x lt lx;
    once = λ x y lx ly e. same_spot (width_of J ws t) x y
        (omega (arith, tile_row t x lt lx, tile_row t y lt ly, ap (λ (p : ℕ). p / sheet_cols J ws) e))
        (omega (arith, tile_col t x lt lx, tile_col t y lt ly, ap (λ (p : ℕ). p % sheet_cols J ws) e));
  }

  -- ---- each row and each column of the sheet lies in a tile

  -- cell (r, c) of tile t, by its row R and its column C on the sheet
  pub record Spot (R C t r c : ℕ) : Type 0 where
    pub tile : t < I * J
    pub row_in : r < height_of J hs t
    pub col_in : c < width_of J ws t
    pub row_is : sum (t / J) hs + r ≡ R
    pub col_is : sum (t % J) ws + c ≡ C

  pub spot_cover : (R C : ℕ) → R < sheet_rows I hs → C < sheet_cols J ws → (t : ℕ) × (r : ℕ) × (c : ℕ) × Spot R C t r c
  spot_cover R C lr lc = go (piece hs I R) (piece ws J C) (piece_is hs I R lr) (piece_is ws J C lc)
    where
      go : (i j : ℕ) → (i < I) × Lies hs i R → (j < J) × Lies ws j C → (t : ℕ) × (r : ℕ) × (c : ℕ) × Spot R C t r c
      go i j (li, (ar, br)) (lj, (ac, bc)) =
          let er : (i * J + j) / J ≡ i = row_of J i j lj in
          let ec : (i * J + j) % J ≡ j = col_of J i j lj in (
            i * J + j,
            R - sum i hs,
            C - sum j ws,
            record {
              tile = place_lt I J i j li lj;
              row_in = rw er (omega arith);
              col_in = rw ec (omega arith);
              row_is = rw er (omega arith);
              col_is = rw ec (omega arith);
            },
          )

  pub tile_cover : (p : ℕ) → p < N → (t : ℕ) × (x : ℕ) × (t < I * J) × (x < cells_in J hs ws t) × (sheet_place I J hs ws t x ≡ p)
  tile_cover p l =
      let (t, r, c, s) = spot_cover (p / sheet_cols J ws) (p % sheet_cols J ws) (row_in _ _ p l) (col_in _ _ p l) in (
        t,
        r * width_of J ws t + c,
        s.tile,
        spot_place t r c s.tile s.row_in s.col_in,
        spot_at_lem t r c s.tile s.row_in s.col_in ∙ ap₂ (λ (a b : ℕ). a * sheet_cols J ws + b) s.row_is s.col_is ∙ spot_is (sheet_cols J ws) p,
      )
