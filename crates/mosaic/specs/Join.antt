-- Joining, as paper 01 tells it, over what the border records say of each border cell g of the mosaic: `count g`, its count within its tile; `way g` and
-- `code g`, the border number within its own tile and the code of its way (absent: 65535, 255; ends inside: 65535, 0).
-- Assumes nothing.
use Rattle.std.specs.Prelude.{Bool, cond, not, ◌&&◌, List, ◌≡◌, ℕ, zero, suc, ◌+◌, ◌*◌, ◌<◌, eqb, ltb}
use Rattle.flow.specs.Net.{on, sum, Counts}
use Rattle.sheet.specs.Compass.{step_of}
use Rattle.sheet.specs.Sheet.{step_from, SheetNoLoop}
use Rattle.tile.specs.Border.{on_border}
use Rattle.tile.specs.Way.{way_at}
use Rattle.mosaic.specs.Layout.{sheet_rows, sheet_cols, height_of, width_of, borders_in, borders_before, all_borders, border_tile, number_in_tile, place_in, border_sheet_place, number_in_mosaic}

-- the first of the numbers below n that passes a test, or n where none does
unfoldable pub first_below : ℕ → (ℕ → Bool) → ℕ
first_below zero passes = 0
first_below (suc n) passes = let r = first_below n passes in cond (ltb r n) r (cond (passes n) n (suc n))

-- absent: 65535, 255; any other border cell is land
unfoldable pub is_land : (ℕ → ℕ) → (ℕ → ℕ) → ℕ → Bool
is_land way code g = not (eqb (way g) 65535 && eqb (code g) 255)

module _ (I J : ℕ) (hs ws : ℕ → ℕ) where
  -- an exit is a border cell whose way is itself
  unfoldable pub exit_at : (ℕ → ℕ) → ℕ → Bool
  exit_at way g = eqb (way g) (number_in_tile I J hs ws g)

  -- the place on the sheet that exit g steps onto
  abbrev pub steps_onto : (ℕ → ℕ) → ℕ → ℕ
  steps_onto code g = step_from (sheet_rows I hs) (sheet_cols J ws) (step_of (code g)) (border_sheet_place I J hs ws g)

  -- the border cell that exit g steps onto, or none where it steps off the mosaic
  unfoldable pub onto : (ℕ → ℕ) → ℕ → ℕ
  onto code g = first_below (all_borders I J hs ws) (λ h. eqb (border_sheet_place I J hs ws h) (steps_onto code g))

  -- the exit that is the way of border cell h, by its number in the mosaic, or none where the water ends inside or h is absent
  unfoldable pub leads_to : (ℕ → ℕ) → ℕ → ℕ
  leads_to way h = cond (eqb (way h) 65535) (all_borders I J hs ws) (borders_before J hs ws (border_tile I J hs ws h) + way h)

  -- the exit that exit g feeds; exits that step onto an absent cell or off the mosaic feed nobody
  unfoldable pub feeds : (ℕ → ℕ) → (ℕ → ℕ) → ℕ → ℕ
  feeds way code g =
      cond (ltb g (all_borders I J hs ws) && (exit_at way g && ltb (onto code g) (all_borders I J hs ws))) (leads_to way (onto code g)) (all_borders I J hs ws)

  -- an exit's own count
  unfoldable pub own : (ℕ → ℕ) → (ℕ → ℕ) → ℕ → ℕ
  own count way g = on (exit_at way g) (count g)

  -- an exit's total is its own count plus all that comes in at border cells with that way: the totals of the exits that feed it
  abbrev pub Totals : (ℕ → ℕ) → (ℕ → ℕ) → (ℕ → ℕ) → (ℕ → ℕ) → Type 0
  Totals count way code T = Counts (all_borders I J hs ws) (feeds way code) (own count way) T

  -- a border cell's incoming is the sum of totals of exits of other tiles that step onto it
  unfoldable pub comes_in : (ℕ → ℕ) → (ℕ → ℕ) → (ℕ → ℕ) → ℕ → ℕ
  comes_in way code T h = sum (all_borders I J hs ws) (λ g. on (exit_at way g && (eqb (onto code g) h && is_land way code h)) (T g))

  -- what comes in at place x of tile t: the incoming of the border cell that stands there
  abbrev pub comes_at : (ℕ → ℕ) → (ℕ → ℕ) → (ℕ → ℕ) → ℕ → ℕ → ℕ
  comes_at way code T t x = cond (on_border (height_of J hs t) (width_of J ws t) x) (comes_in way code T (number_in_mosaic J hs ws t x)) 0

-- no tile has a loop
abbrev pub TilesFree : (I J : ℕ) (hs ws : ℕ → ℕ) → (ℕ → List ℕ) → Type 0
TilesFree I J hs ws tiles = (t : ℕ) → t < I * J → SheetNoLoop (height_of J hs t) (width_of J ws t) (tiles t)

-- the records say the truth of the tiles, whose own counts are `counts t`: of border cell b of tile t, its count within the tile and its way
pub record Tells (I J : ℕ) (hs ws : ℕ → ℕ) (tiles : ℕ → List ℕ) (counts : ℕ → ℕ → ℕ) (count way code : ℕ → ℕ) : Type 0 where
  pub count_is : (t b : ℕ) → t < I * J → b < borders_in J hs ws t → count (borders_before J hs ws t + b) ≡ counts t (place_in J hs ws t b)
  pub way_is : (t b : ℕ) → t < I * J → b < borders_in J hs ws t
      → way (borders_before J hs ws t + b) ≡ (way_at (height_of J hs t) (width_of J ws t) (tiles t) (place_in J hs ws t b)).number
  pub code_is : (t b : ℕ) → t < I * J → b < borders_in J hs ws t
      → code (borders_before J hs ws t + b) ≡ (way_at (height_of J hs t) (width_of J ws t) (tiles t) (place_in J hs ws t b)).code
