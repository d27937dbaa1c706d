-- The border cells of all tiles, numbered in record order: each once, and each cell on its tile's edge is one.
-- Assumes nothing.
use mathlib.Core.Path.{◌≡◌, sym, ap, ap₂, ◌∙◌}
use mathlib.Core.Bool.{true}
use Prim.Native.Nat.{ℕ, ◌+◌, ◌*◌, ◌<◌}
use native.Mathlib.Omega.{arith}
use Rattle.flow.proofs.Part.{Places}
use Rattle.tile.specs.Border.{on_border, border_number}
use Rattle.tile.proofs.Borders as B
use Rattle.mosaic.specs.Layout.{sheet_rows, sheet_cols, height_of, width_of, cells_in, sheet_place, borders_in, borders_before, all_borders, border_tile, number_in_tile, place_in, border_sheet_place, number_in_mosaic}
use Rattle.mosaic.proofs.Pieces.{piece_is, piece_at, piece_below}
use Rattle.mosaic.proofs.Grid.{tile_places, tile_below, same_tile_lem}

module _ (I J : ℕ) (hs ws : ℕ → ℕ) where
  -- ---- border cell b of tile t

  module _ (t b : ℕ) (lt : t < I * J) (lb : b < borders_in J hs ws t) where
    pub border_below : borders_before J hs ws t + b < all_borders I J hs ws
    border_below = piece_below (borders_in J hs ws) (I * J) t b lt lb

    pub border_tile_lem : border_tile I J hs ws (borders_before J hs ws t + b) ≡ t
    unfolding border_tile
    border_tile_lem = piece_at (borders_in J hs ws) (I * J) t b lt lb

    pub border_in : number_in_tile I J hs ws (borders_before J hs ws t + b) ≡ b
    unfolding number_in_tile
    border_in = omega (arith, ap (borders_before J hs ws) border_tile_lem)

    pub border_at : border_sheet_place I J hs ws (borders_before J hs ws t + b) ≡ sheet_place I J hs ws t (place_in J hs ws t b)
    border_at = ap₂ (λ (u a : ℕ). sheet_place I J hs ws u (place_in J hs ws u a)) border_tile_lem border_in

    pub place_in_lem : place_in J hs ws t b < cells_in J hs ws t
    unfolding borders_in
    place_in_lem = B.place_in_lem (height_of J hs t) (width_of J ws t) b lb

  -- ---- border cell g of the mosaic

  module _ (g : ℕ) (l : g < all_borders I J hs ws) where
    pub tile_in : border_tile I J hs ws g < I * J
    unfolding border_tile
    tile_in = (piece_is (borders_in J hs ws) (I * J) g l).0

    pub number_in_lem : number_in_tile I J hs ws g < borders_in J hs ws (border_tile I J hs ws g)
    unfolding number_in_tile border_tile
    number_in_lem = let p = (piece_is (borders_in J hs ws) (I * J) g l).1 in omega (arith, p.0, p.1)

    pub number_is : borders_before J hs ws (border_tile I J hs ws g) + number_in_tile I J hs ws g ≡ g
    unfolding number_in_tile border_tile
    number_is = let p = (piece_is (borders_in J hs ws) (I * J) g l).1 in omega (arith, p.0)

    -- its place in its tile
    pub cell_in : place_in J hs ws (border_tile I J hs ws g) (number_in_tile I J hs ws g) < cells_in J hs ws (border_tile I J hs ws g)
    cell_in = place_in_lem (border_tile I J hs ws g) (number_in_tile I J hs ws g) tile_in number_in_lem

    pub at_below : border_sheet_place I J hs ws g < sheet_rows I hs * sheet_cols J ws
    at_below = tile_below I J hs ws (border_tile I J hs ws g) (place_in J hs ws (border_tile I J hs ws g) (number_in_tile I J hs ws g)) tile_in cell_in

  -- what holds of border cell b of each tile t holds of each border cell
  pub each_border : (P : ℕ → Type 0) → ((t b : ℕ) → t < I * J → b < borders_in J hs ws t → P (borders_before J hs ws t + b)) → (g : ℕ) → g < all_borders I J hs ws → P g
  each_border P h g l = let e = number_is g l in rw (← e) (h (border_tile I J hs ws g) (number_in_tile I J hs ws g) (tile_in g l) (number_in_lem g l))

  -- each once
  in_once : (t a b : ℕ) → t < I * J → a < borders_in J hs ws t → b < borders_in J hs ws t → sheet_place I J hs ws t (place_in J hs ws t a) ≡ sheet_place I J hs ws t (place_in J hs ws t b) → a ≡ b
  unfolding borders_in
  in_once t a b lt la lb e =
      B.place_once (height_of J hs t) (width_of J ws t) a b la lb ((tile_places I J hs ws t lt).once _ _ (place_in_lem t a lt la) (place_in_lem t b lt lb) e)

  pub border_once : (t u a b : ℕ) → t < I * J → a < borders_in J hs ws t → u < I * J → b < borders_in J hs ws u
      → sheet_place I J hs ws t (place_in J hs ws t a) ≡ sheet_place I J hs ws u (place_in J hs ws u b) → (t ≡ u) × (a ≡ b)
  border_once t u a b lt la lu lb e =
      let k : t ≡ u = same_tile_lem I J hs ws t u _ _ lt lu (place_in_lem t a lt la) (place_in_lem u b lu lb) e in
      (k, in_once t a b lt la (rw k lb) (e ∙ ap (λ (v : ℕ). sheet_place I J hs ws v (place_in J hs ws v b)) (sym k)))

  pub border_places : Places (all_borders I J hs ws) (sheet_rows I hs * sheet_cols J ws) (border_sheet_place I J hs ws)
  border_places = record {
    into = at_below;
    once = λ g h lg lh e.
        let (s, n) = border_once _ _ _ _ (tile_in g lg) (number_in_lem g lg) (tile_in h lh) (number_in_lem h lh) e in
        sym (number_is g lg) ∙ ap₂ (λ (t b : ℕ). borders_before J hs ws t + b) s n ∙ number_is h lh;
  }

  -- ---- the border cell at place x of tile t

  module _ (t x : ℕ) (lt : t < I * J) (lx : x < cells_in J hs ws t) (on_edge : on_border (height_of J hs t) (width_of J ws t) x ≡ true) where
    pub of_in : border_number (height_of J hs t) (width_of J ws t) x < borders_in J hs ws t
    unfolding borders_in
    of_in = B.number_below (height_of J hs t) (width_of J ws t) x lx on_edge

    pub of_below : number_in_mosaic J hs ws t x < all_borders I J hs ws
    of_below = border_below t (border_number (height_of J hs t) (width_of J ws t) x) lt of_in

    pub of_at : border_sheet_place I J hs ws (number_in_mosaic J hs ws t x) ≡ sheet_place I J hs ws t x
    of_at =
        border_at t (border_number (height_of J hs t) (width_of J ws t) x) lt of_in
        ∙ ap (sheet_place I J hs ws t) (B.number_place (height_of J hs t) (width_of J ws t) x lx on_edge)

  -- a border cell stands on its tile's edge
  in_on : (t b x : ℕ) → t < I * J → b < borders_in J hs ws t → x < cells_in J hs ws t → sheet_place I J hs ws t (place_in J hs ws t b) ≡ sheet_place I J hs ws t x
      → on_border (height_of J hs t) (width_of J ws t) x ≡ true
  unfolding borders_in
  in_on t b x lt lb lx e =
      ap (on_border (height_of J hs t) (width_of J ws t)) (sym ((tile_places I J hs ws t lt).once _ x (place_in_lem t b lt lb) lx e))
      ∙ B.place_on (height_of J hs t) (width_of J ws t) b lb

  pub border_on : (t x g : ℕ) → t < I * J → x < cells_in J hs ws t → g < all_borders I J hs ws → border_sheet_place I J hs ws g ≡ sheet_place I J hs ws t x
      → on_border (height_of J hs t) (width_of J ws t) x ≡ true
  border_on t x g lt lx lg e = go (border_tile I J hs ws g) (number_in_tile I J hs ws g) (tile_in g lg) (number_in_lem g lg) e
    where
      go : (u b : ℕ) → u < I * J → b < borders_in J hs ws u → sheet_place I J hs ws u (place_in J hs ws u b) ≡ sheet_place I J hs ws t x
          → on_border (height_of J hs t) (width_of J ws t) x ≡ true
      go u b lu lb e =
          let k : u ≡ t = same_tile_lem I J hs ws u t _ x lu lt (place_in_lem u b lu lb) lx e in
          in_on t b x lt (rw (← k) lb) lx (ap (λ (v : ℕ). sheet_place I J hs ws v (place_in J hs ws v b)) (sym k) ∙ e)
