-- The tile of a border cell, found by the first border numbers of the tiles.
-- Assumes nothing.
use mathlib.Core.List.{List}
use mathlib.Core.Path.{◌≡◌, ap, ◌∙◌}
use Prim.Native.Nat.{ℕ, ◌+◌, ◌-◌, ◌*◌, ◌<◌, ◌≤◌}
use native.Mathlib.Omega.{arith}
use Rattle.mosaic.specs.Layout.{borders_in, number_in_tile}
use Rattle.mosaic.proofs.Borders.{tile_in, number_is, number_in_lem}
use Rattle.mosaic.proofs.Pieces.{piece_unique}
use Rattle.mosaic_read.specs.Records.{heights, widths}
use Rattle.mosaic_step.specs.Table.{WellFormed}
use Rattle.mosaic_step.proofs.Known.{borders_are}
use Rattle.mosaic_read.specs.Said.{borders, record_of, number_in}
use Rattle.mosaic_net.specs.Method.{first_of}
use Rattle.mosaic_net.proofs.Told.{first_next}

module _ (I J : ℕ) (bytes : List ℕ) (w : WellFormed I J bytes) (g : ℕ) (l : g < borders I J bytes) where
  -- there is a tile
  pub some_tile : 0 < I * J
  some_tile = omega (arith, tile_in I J (heights bytes J) (widths bytes) g l)

  -- it is the last whose first border number is not above g
  tile_found : (t : ℕ) → t < I * J → first_of I J bytes t ≤ g → g < first_of I J bytes (t + 1) → t ≡ record_of bytes I J g
  tile_found t lt from until =
      piece_unique (borders_in J (heights bytes J) (widths bytes)) t (record_of bytes I J g) g
      (from, omega (arith, first_next I J bytes w t lt, borders_are w t lt))
      (omega (arith, number_is I J (heights bytes J) (widths bytes) g l), omega (arith, number_is I J (heights bytes J) (widths bytes) g l, number_in_lem I J (heights bytes J) (widths bytes) g l))

  -- the same told by the tile behind it
  pub tile_before : (t : ℕ) → 0 < t → t ≤ I * J → first_of I J bytes (t - 1) ≤ g → g < first_of I J bytes t → t - 1 ≡ record_of bytes I J g
  tile_before t some le from until = let e : t - 1 + 1 ≡ t = omega arith in tile_found (t - 1) (omega arith) from (omega (arith, ap (first_of I J bytes) e))

  -- or by there being none behind it
  pub tile_last : (t : ℕ) → t ≡ I * J → first_of I J bytes (t - 1) ≤ g → I * J - 1 ≡ record_of bytes I J g
  tile_last t e from = tile_before (I * J) some_tile (omega arith) (omega (arith, ap (λ (u : ℕ). first_of I J bytes (u - 1)) e)) l

  -- it is there
  pub tile_there : {t : ℕ} → t ≡ record_of bytes I J g → t < I * J
  tile_there e = omega (arith, tile_in I J (heights bytes J) (widths bytes) g l)

  -- its first border number is not above g
  pub first_le : {t first : ℕ} → t ≡ record_of bytes I J g → first ≡ first_of I J bytes t → first ≤ g
  first_le {t} e f = omega (arith, f, ap (first_of I J bytes) e, number_is I J (heights bytes J) (widths bytes) g l)

  -- what is left is the number in the tile
  pub number_left : {t first : ℕ} → t ≡ record_of bytes I J g → first ≡ first_of I J bytes t → g - first ≡ number_in bytes I J g
  unfolding number_in_tile
  number_left {t} {first} e f = ap (λ (x : ℕ). g - x) (f ∙ ap (first_of I J bytes) e)
