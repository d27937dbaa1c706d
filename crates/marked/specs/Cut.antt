-- A sheet cut into tiles, and what is said of it: its tiles, their true border records, the join and the finished tiles, by the definitions of crates tile and
-- mosaic. I tile rows of the heights hs 0, hs 1, .. and J tile columns of the widths ws 0, ws 1, ..
-- Assumes nothing.
use Rattle.std.specs.Prelude.{List, [], ◌∷◌, ◌≡◌, ℕ, zero, suc, ◌+◌, ◌*◌, ◌<◌, length}
use Rattle.flow.specs.Net.{Counts, NoLoop, FirstLoop}
use Rattle.flow.proofs.Through.{through}
use Rattle.sheet.specs.Sheet.{code_at, dest_of, unit, count_at}
use Rattle.tile.specs.Way.{Way, way_at}
use Rattle.mosaic.specs.Layout.{height_of, width_of, cells_in, sheet_place, all_borders, border_tile, number_in_tile, place_in, Cut, Fits}
use Rattle.mosaic.specs.Join.{feeds, Totals, comes_at, TilesFree, Tells}

-- f 0, f 1, .., f (n - 1)
unfoldable pub listed : ℕ → (ℕ → ℕ) → List ℕ
listed zero f = []
listed (suc n) f = f 0 ∷ listed n (λ x. f (suc x))

module _ (I J : ℕ) (hs ws : ℕ → ℕ) (sheet : List ℕ) where
  -- tile t: the sheet's codes at its places
  unfoldable pub tile_codes : ℕ → List ℕ
  tile_codes t = listed (cells_in J hs ws t) (λ x. code_at sheet (sheet_place I J hs ws t x))

  -- where the water of its places goes, arrows over its edge ending there
  abbrev pub tile_to : ℕ → ℕ → ℕ
  tile_to t = dest_of (height_of J hs t) (width_of J ws t) (tile_codes t)

  -- its counts by itself (see `alone` below)
  unfoldable pub tile_count : ℕ → ℕ → ℕ
  tile_count t = through (cells_in J hs ws t) (tile_to t) (unit (tile_codes t))

  -- ---- what true records say of border cell g (see `tells` below)

  unfoldable pub count_of : ℕ → ℕ
  count_of g = tile_count (border_tile I J hs ws g) (place_in J hs ws (border_tile I J hs ws g) (number_in_tile I J hs ws g))

  abbrev pub true_way : ℕ → ℕ → Way
  true_way t b = way_at (height_of J hs t) (width_of J ws t) (tile_codes t) (place_in J hs ws t b)

  unfoldable pub way_of : ℕ → ℕ
  way_of g = (true_way (border_tile I J hs ws g) (number_in_tile I J hs ws g)).number

  unfoldable pub code_of : ℕ → ℕ
  code_of g = (true_way (border_tile I J hs ws g) (number_in_tile I J hs ws g)).code

  -- the exit that each exit feeds
  abbrev pub join : ℕ → ℕ
  join = feeds I J hs ws way_of code_of

  -- ---- what is said

  -- an allowed mosaic; its tiles hold the sheet's codes, and none has a loop; the records say the truth of them
  pub record Tiled : Type 0 where
    pub fits : Fits I J hs ws
    pub cut : Cut I J hs ws sheet tile_codes
    pub free : TilesFree I J hs ws tile_codes
    pub alone : (t : ℕ) → t < I * J → Counts (cells_in J hs ws t) (tile_to t) (unit (tile_codes t)) (tile_count t)
    pub tells : Tells I J hs ws tile_codes tile_count count_of way_of code_of

  -- no exits feed each other round, these are the exits' totals, and each tile finished with what comes in holds these counts of the sheet
  pub record Joined (totals counts : List ℕ) : Type 0 where
    pub tiled : Tiled
    pub no_loop : NoLoop (all_borders I J hs ws) join
    pub totals_long : length totals ≡ all_borders I J hs ws
    pub totals_are : Totals I J hs ws count_of way_of code_of (count_at totals)
    pub counts_long : length counts ≡ length sheet
    pub finished : (t : ℕ) → t < I * J
        → Counts (cells_in J hs ws t) (tile_to t) (λ x. unit (tile_codes t) x + comes_at I J hs ws way_of code_of (count_at totals) t x) (λ x. count_at counts (sheet_place I J hs ws t x))

  -- of all exits on any loop the first is this border cell of this tile, and so many exits are on its loop
  pub record JoinLoop (tile border exits : ℕ) : Type 0 where
    pub tiled : Tiled
    pub exit : ℕ
    pub tile_is : border_tile I J hs ws exit ≡ tile
    pub border_is : number_in_tile I J hs ws exit ≡ border
    pub first : FirstLoop (all_borders I J hs ws) join exit exits
