-- What comes in at the border cells of a mosaic, sentence by sentence as paper 01 has it ("Joining"), over the records and the numbers that joining leaves.
-- Assumes nothing.
use Rattle.std.specs.Prelude.{Bool, true, false, not, ◌&&◌, List, ◌≡◌, ℕ, ◌+◌, ◌<◌, eqb, length}
use Rattle.flow.specs.Net.{on, sum}
use Rattle.mosaic.specs.Join.{exit_at, is_land, onto, leads_to}
use Rattle.mosaic_read.specs.Records.{heights, widths}
use Rattle.mosaic_read.specs.Said.{borders, record_of, said_count, said_way, said_code}
use Rattle.sheet.specs.Sheet.{count_at}

module _ (I J : ℕ) (bytes : List ℕ) where
  -- border cell g is an exit
  abbrev pub is_exit : ℕ → Bool
  is_exit g = exit_at I J (heights bytes J) (widths bytes) (said_way bytes I J) g

  -- border cell h is land
  abbrev pub land_there : ℕ → Bool
  land_there h = is_land (said_way bytes I J) (said_code bytes I J) h

  -- the border cell that exit g steps onto; a number that is none where it steps off the mosaic
  abbrev pub steps_onto_cell : ℕ → ℕ
  steps_onto_cell g = onto I J (heights bytes J) (widths bytes) (said_code bytes I J) g

  -- border cells g and h stand in one tile
  abbrev pub same_tile : ℕ → ℕ → Bool
  same_tile g h = eqb (record_of bytes I J g) (record_of bytes I J h)

  -- the sum of totals of exits of other tiles that step onto border cell h
  abbrev pub from_other_tiles : (ℕ → ℕ) → ℕ → ℕ
  from_other_tiles total h = sum (borders I J bytes) (λ g. on (is_exit g && (eqb (steps_onto_cell g) h && not (same_tile g h))) (total g))

  -- all that comes in at border cells with the way g
  abbrev pub comes_with_way : List ℕ → ℕ → ℕ
  comes_with_way incoming g = sum (borders I J bytes) (λ h. on (eqb (leads_to I J (heights bytes J) (widths bytes) (said_way bytes I J) h) g) (count_at incoming h))

  pub record IncomingAsTold (incoming : List ℕ) : Type 0 where
    pub total : ℕ → ℕ
    -- an exit's total is its own count plus all that comes in at border cells with that way
    pub exits : (g : ℕ) → g < borders I J bytes → is_exit g ≡ true → total g ≡ said_count bytes I J g + comes_with_way incoming g
    -- a border cell's incoming is the sum of totals of exits of other tiles that step onto it
    pub land : (h : ℕ) → h < borders I J bytes → land_there h ≡ true → count_at incoming h ≡ from_other_tiles total h
    -- exits that step onto an absent cell feed nobody
    pub absent : (h : ℕ) → h < borders I J bytes → land_there h ≡ false → count_at incoming h ≡ 0
    -- one number per border cell, in record order
    pub one_each : length incoming ≡ borders I J bytes
