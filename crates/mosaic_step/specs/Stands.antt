-- Where a tile stands in a mosaic. Nothing here is cited by a public promise.
-- Assumes nothing.
use Rattle.std.specs.Prelude.{◌≡◌, ℕ, ◌*◌, ◌/◌, ◌%◌, ◌<◌}

-- tile t stands in tile row i and tile column j
pub record TileIs (I J t i j : ℕ) : Type 0 where
  pub tile : t < I * J
  pub row : i ≡ t / J
  pub col : j ≡ t % J
