-- What well-formed records say of each border cell g of the mosaic, in the numbering of crate mosaic: its count within its tile, and the border number
-- and the code of its way; and with that how many border cells there are, and the net of the exits.
-- Assumes nothing.
use Rattle.std.specs.Prelude.{List, ℕ}
use Rattle.mosaic.specs.Join.{feeds}
use Rattle.mosaic.specs.Layout.{all_borders, border_tile, number_in_tile}
use Rattle.mosaic_read.specs.Records.{heights, widths, count_in, way_in, code_in}

module _ (bytes : List ℕ) (I J : ℕ) where
  -- the record that tells of border cell g, and its number there
  abbrev pub record_of : ℕ → ℕ
  record_of g = border_tile I J (heights bytes J) (widths bytes) g

  abbrev pub number_in : ℕ → ℕ
  number_in g = number_in_tile I J (heights bytes J) (widths bytes) g

  unfoldable pub said_count : ℕ → ℕ
  said_count g = count_in bytes (record_of g) (number_in g)

  unfoldable pub said_way : ℕ → ℕ
  said_way g = way_in bytes (record_of g) (number_in g)

  unfoldable pub said_code : ℕ → ℕ
  said_code g = code_in bytes (record_of g) (number_in g)

module _ (I J : ℕ) (bytes : List ℕ) where
  -- how many border cells the mosaic has
  abbrev pub borders : ℕ
  borders = all_borders I J (heights bytes J) (widths bytes)

  -- the exit that each exit feeds
  abbrev pub feeds_by : ℕ → ℕ
  feeds_by = feeds I J (heights bytes J) (widths bytes) (said_way bytes I J) (said_code bytes I J)
