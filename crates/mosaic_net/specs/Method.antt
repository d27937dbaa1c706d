-- What the functions that write the net of the exits promise each other and the crate that calls them. Nothing here is cited by a public promise.
-- Assumes nothing.
use Rattle.std.specs.Prelude.{cond, ◌&&◌, List, ◌≡◌, ℕ, ◌+◌, ◌<◌, ltb, length}
use Rattle.sheet.specs.Sheet.{count_at}
use Rattle.mosaic.specs.Join.{is_land, exit_at, onto, leads_to, own}
use Rattle.mosaic.specs.Layout.{borders_before, all_borders}
use Rattle.mosaic_read.specs.Records.{heights, widths}
use Rattle.mosaic_read.specs.Said.{borders, feeds_by, said_count, said_way, said_code}
use Rattle.mosaic_step.specs.Table.{Table}

-- ---- numbers that are written one after the other

-- of a list of M numbers the first `upto` are those of f
pub record Filled (M : ℕ) (f : ℕ → ℕ) (list : List ℕ) (upto : ℕ) : Type 0 where
  pub long : length list ≡ M
  pub holds : (h : ℕ) → h < upto → count_at list h ≡ f h

-- ---- what is written for each border cell of a mosaic

module _ (I J : ℕ) (hs ws way code : ℕ → ℕ) where
  -- where border cell h leads, and one more than the number of border cells where it is absent
  unfoldable pub lead_mark : ℕ → ℕ
  lead_mark h = cond (is_land way code h) (leads_to I J hs ws way h) (all_borders I J hs ws + 1)

  -- the border cell that border cell g pours onto: land that it steps onto as an exit, or none
  unfoldable pub pours_onto : ℕ → ℕ
  pours_onto g =
      cond (exit_at I J hs ws way g && (ltb (onto I J hs ws code g) (all_borders I J hs ws) && is_land way code (onto I J hs ws code g))) (onto I J hs ws code g) (all_borders I J hs ws)

module _ (I J : ℕ) (bytes : List ℕ) where
  abbrev pub leads_by : ℕ → ℕ
  leads_by = lead_mark I J (heights bytes J) (widths bytes) (said_way bytes I J) (said_code bytes I J)

  abbrev pub pours_by : ℕ → ℕ
  pours_by = pours_onto I J (heights bytes J) (widths bytes) (said_way bytes I J) (said_code bytes I J)

  abbrev pub own_by : ℕ → ℕ
  own_by = own I J (heights bytes J) (widths bytes) (said_count bytes I J) (said_way bytes I J)

  -- the number of tile t's first border cell
  abbrev pub first_of : ℕ → ℕ
  first_of t = borders_before J (heights bytes J) (widths bytes) t

  -- the net of the exits is written down: what each border cell pours onto, what it feeds, its own count; and the table of records
  pub record NetWritten (pours feeds own table : List ℕ) : Type 0 where
    pub pours_are : Filled (borders I J bytes) pours_by pours (borders I J bytes)
    pub feeds_are : Filled (borders I J bytes) (feeds_by I J bytes) feeds (borders I J bytes)
    pub own_are : Filled (borders I J bytes) own_by own (borders I J bytes)
    pub table_is : Table I J bytes table

-- ---- lists

-- what g feeds, by lists: where the cell leads that it pours onto
unfoldable pub feed_at : (leads pours : List ℕ) → ℕ → ℕ
feed_at leads pours g = cond (ltb (count_at pours g) (length pours)) (count_at leads (count_at pours g)) (length pours)
