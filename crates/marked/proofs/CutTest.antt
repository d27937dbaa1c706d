-- A test of what is said of a sheet that is cut into tiles, and its law: the mosaic is allowed, no tile has a loop, and the join is as told. That the tiles hold
-- the sheet's codes and the records say the truth of them is so of every sheet.
-- Assumes nothing.
use mathlib.Core.Bool.{Bool, true, ◌&&◌}
use mathlib.Core.List.{List}
use mathlib.Core.Path.{◌≡◌, refl, ap, ap₂}
use Prim.Native.Nat.{ℕ, zero, suc, ◌+◌, ◌*◌, ◌<◌, ◌≤◌}
use native.Mathlib.Omega.{arith}
use native.Mathlib.Nat.{le_of_suc-le-suc}
use lib.Dec.{eqb, leb}
use lib.ListN.{length, get_or}
use borrow.Author.Tests.{eqb-true, leb-true}
use Rattle.flow.proofs.Count.{through_counts}
use Rattle.flow.proofs.Test.{allb, allb_says, countsb, countsb_iff, no_loopb, no_loopb_iff}
use Rattle.sheet.specs.Sheet.{unit, count_at}
use Rattle.sheet.proofs.Dest.{dest_beyond}
use Rattle.mosaic.specs.Layout.{sheet_rows, sheet_cols, height_of, width_of, cells_in, sheet_place, borders_before, all_borders, border_tile, number_in_tile, place_in, Cut, Fits}
use Rattle.mosaic.specs.Join.{own, comes_at, TilesFree, Tells}
use Rattle.mosaic.proofs.Borders.{border_tile_lem, border_in}
use Rattle.mosaic.proofs.Totals.{feeds_out}
use Rattle.marked.specs.Cut.{listed, tile_codes, tile_to, tile_count, count_of, true_way, way_of, code_of, join, Tiled, Joined, JoinLoop}
use Rattle.marked.proofs.NetTest.{both, firstb, first_says}

-- ---- the list of a function's values

listed_long : (n : ℕ) (f : ℕ → ℕ) → length (listed n f) ≡ n
unfolding listed
listed_long zero f = refl
listed_long (suc n) f = ap suc (listed_long n (λ x. f (suc x)))

listed_at : (n : ℕ) (f : ℕ → ℕ) (d x : ℕ) → x < n → get_or (listed n f) x d ≡ f x
unfolding listed
listed_at zero f d x l = absurd (omega arith)
listed_at (suc n) f d zero l = refl
listed_at (suc n) f d (suc x) l = listed_at n (λ x. f (suc x)) d x (le_of_suc-le-suc l)

-- ---- an allowed mosaic

-- each of the first n sides is allowed
unfoldable pub sidesb : ℕ → (ℕ → ℕ) → Bool
sidesb n f = allb n (λ i. leb 1 (f i) && leb (f i) 256)

sides_say : (n : ℕ) (f : ℕ → ℕ) → sidesb n f ≡ true → (i : ℕ) → i < n → (1 ≤ f i) × (f i ≤ 256)
unfolding sidesb
sides_say n f e i l = let (a, b) = both (leb 1 (f i)) _ (allb_says n _ e i l) in (leb-true 1 (f i) a, leb-true (f i) 256 b)

unfoldable pub fitsb : (I J : ℕ) (hs ws : ℕ → ℕ) → Bool
fitsb I J hs ws =
    leb 1 I && (leb 1 J && (leb (I * J) 64 && (sidesb I hs && (sidesb J ws && (leb (sheet_rows I hs) 4096 && leb (sheet_cols J ws) 4096)))))

fits_says : (I J : ℕ) (hs ws : ℕ → ℕ) → fitsb I J hs ws ≡ true → Fits I J hs ws
unfolding fitsb
fits_says I J hs ws e =
    let (a, x1) = both (leb 1 I) _ e in
    let (b, x2) = both (leb 1 J) _ x1 in
    let (c, x3) = both (leb (I * J) 64) _ x2 in
    let (d, x4) = both (sidesb I hs) _ x3 in
    let (f, x5) = both (sidesb J ws) _ x4 in
    let (g, h) = both (leb (sheet_rows I hs) 4096) _ x5 in
    record {
      some_row = leb-true _ _ a;
      some_col = leb-true _ _ b;
      tiles_most = leb-true _ _ c;
      heights = sides_say I hs d;
      widths = sides_say J ws f;
      rows_most = leb-true _ _ g;
      cols_most = leb-true _ _ h;
    }

module _ (I J : ℕ) (hs ws : ℕ → ℕ) (sheet : List ℕ) where
  -- ---- the tests

  unfoldable pub tiledb : Bool
  tiledb = fitsb I J hs ws && allb (I * J) (λ t. no_loopb (cells_in J hs ws t) (tile_to I J hs ws sheet t))

  -- tile t finished with what comes in holds the counts
  unfoldable pub finishedb : (totals counts : List ℕ) → ℕ → Bool
  finishedb totals counts t =
      countsb (cells_in J hs ws t) (tile_to I J hs ws sheet t)
      (λ x. unit (tile_codes I J hs ws sheet t) x + comes_at I J hs ws (way_of I J hs ws sheet) (code_of I J hs ws sheet) (count_at totals) t x)
      (λ x. count_at counts (sheet_place I J hs ws t x))

  unfoldable pub joinedb : (totals counts : List ℕ) → Bool
  joinedb totals counts =
      tiledb
      && (no_loopb (all_borders I J hs ws) (join I J hs ws sheet)
      && (eqb (length totals) (all_borders I J hs ws)
      && (countsb (all_borders I J hs ws) (join I J hs ws sheet) (own I J hs ws (count_of I J hs ws sheet) (way_of I J hs ws sheet)) (count_at totals)
      && (eqb (length counts) (length sheet)
      && allb (I * J) (finishedb totals counts)))))

  unfoldable pub join_loopb : (tile border exits : ℕ) → Bool
  join_loopb tile border exits =
      tiledb
      && (eqb (border_tile I J hs ws (borders_before J hs ws tile + border)) tile
      && (eqb (number_in_tile I J hs ws (borders_before J hs ws tile + border)) border
      && firstb (all_borders I J hs ws) (join I J hs ws sheet) (borders_before J hs ws tile + border) exits))

  -- ---- what they mean

  module _ (long : length sheet ≡ sheet_rows I hs * sheet_cols J ws) where
    is_cut : Cut I J hs ws sheet (tile_codes I J hs ws sheet)
    unfolding tile_codes
    is_cut = record { sheet_long = long; tile_long = λ t l. listed_long _ _; codes = λ t x lt lx. listed_at _ _ 255 x lx }

    tile_out : (t : ℕ) → t < I * J → (x : ℕ) → cells_in J hs ws t ≤ x → cells_in J hs ws t ≤ tile_to I J hs ws sheet t x
    tile_out t l = dest_beyond (height_of J hs t) (width_of J ws t) (tile_codes I J hs ws sheet t) (is_cut.tile_long t l)

    join_out : (g : ℕ) → all_borders I J hs ws ≤ g → all_borders I J hs ws ≤ join I J hs ws sheet g
    join_out = feeds_out I J hs ws (way_of I J hs ws sheet) (code_of I J hs ws sheet)

    is_told : Tells I J hs ws (tile_codes I J hs ws sheet) (tile_count I J hs ws sheet) (count_of I J hs ws sheet) (way_of I J hs ws sheet) (code_of I J hs ws sheet)
    unfolding count_of way_of code_of
    is_told = record {
      count_is = λ t b lt lb. ap₂ (λ (u a : ℕ). tile_count I J hs ws sheet u (place_in J hs ws u a)) (border_tile_lem I J hs ws t b lt lb) (border_in I J hs ws t b lt lb);
      way_is = λ t b lt lb. ap₂ (λ (u a : ℕ). (true_way I J hs ws sheet u a).number) (border_tile_lem I J hs ws t b lt lb) (border_in I J hs ws t b lt lb);
      code_is = λ t b lt lb. ap₂ (λ (u a : ℕ). (true_way I J hs ws sheet u a).code) (border_tile_lem I J hs ws t b lt lb) (border_in I J hs ws t b lt lb);
    }

    tiled_says : tiledb ≡ true → Tiled I J hs ws sheet
    unfolding tiledb tile_count
    tiled_says e =
        let (a, b) = both (fitsb I J hs ws) _ e in
        let free : TilesFree I J hs ws (tile_codes I J hs ws sheet) =
        λ t l. (no_loopb_iff (cells_in J hs ws t) (tile_to I J hs ws sheet t) (tile_out t l)).0 (allb_says (I * J) _ b t l) in
        record {
          fits = fits_says I J hs ws a;
          cut = is_cut;
          free = free;
          alone = λ t l. through_counts (cells_in J hs ws t) (tile_to I J hs ws sheet t) (tile_out t l) (free t l) (unit (tile_codes I J hs ws sheet t));
          tells = is_told;
        }

    pub joined_says : (totals counts : List ℕ) → joinedb totals counts ≡ true → Joined I J hs ws sheet totals counts
    unfolding joinedb finishedb
    joined_says totals counts e =
        let (a, x1) = both tiledb _ e in
        let (b, x2) = both (no_loopb (all_borders I J hs ws) (join I J hs ws sheet)) _ x1 in
        let (c, x3) = both (eqb (length totals) (all_borders I J hs ws)) _ x2 in
        let (d, x4) = both (countsb (all_borders I J hs ws) (join I J hs ws sheet) (own I J hs ws (count_of I J hs ws sheet) (way_of I J hs ws sheet)) (count_at totals)) _ x3 in
        let (f, g) = both (eqb (length counts) (length sheet)) _ x4 in
        record {
          tiled = tiled_says a;
          no_loop = (no_loopb_iff (all_borders I J hs ws) (join I J hs ws sheet) join_out).0 b;
          totals_long = eqb-true _ _ c;
          totals_are = (countsb_iff _ _ _ _).0 d;
          counts_long = eqb-true _ _ f;
          finished = λ t l. (countsb_iff _ _ _ _).0 (allb_says (I * J) (finishedb totals counts) g t l);
        }

    pub join_loop_says : (tile border exits : ℕ) → join_loopb tile border exits ≡ true → JoinLoop I J hs ws sheet tile border exits
    unfolding join_loopb
    join_loop_says tile border exits e =
        let g : ℕ = borders_before J hs ws tile + border in
        let (a, x1) = both tiledb _ e in
        let (b, x2) = both (eqb (border_tile I J hs ws g) tile) _ x1 in
        let (c, d) = both (eqb (number_in_tile I J hs ws g) border) _ x2 in
        record {
          tiled = tiled_says a;
          exit = g;
          tile_is = eqb-true _ _ b;
          border_is = eqb-true _ _ c;
          first = first_says (all_borders I J hs ws) (join I J hs ws sheet) join_out g exits d;
        }
