-- What is known of a tile of a mosaic: the fields of its record are those of the record of its number, and its sides those of its tile row and tile column.
-- Assumes nothing.
use mathlib.Core.List.{List}
use mathlib.Core.Path.{◌≡◌, refl, ap, ap₂, ◌∙◌}
use Prim.Native.Nat.{ℕ, ◌+◌, ◌*◌}
use native.Mathlib.Omega.{arith}
use Rattle.mosaic.specs.Layout.{height_of, width_of}
use Rattle.mosaic.proofs.Pieces.{spot_is}
use Rattle.mosaic_read.specs.BorderRecord.{Inside, record_count, record_way, record_code}
use Rattle.mosaic_read.specs.Records.{start_of, borders_of, cell_count, cell_way, cell_code, count_in, way_in, code_in, heights, widths}
use Rattle.mosaic_read.proofs.OneRecord.{record_whole}
use Rattle.mosaic_read.proofs.Sides as R
use Rattle.mosaic_step.specs.declared.tiles.MosaicTile.{MosaicTile}
use Rattle.mosaic_step.specs.Table.{WellFormed}
use Rattle.mosaic_step.proofs.Known.{height_is, width_is}

module _ (m : MosaicTile) where
  abbrev bytes : List ℕ
  bytes = m.tiles.mosaic.records.now

  abbrev J : ℕ
  J = m.tiles.mosaic.tile_cols

  w : WellFormed m.tiles.mosaic.tile_rows J bytes
  w = m.tiles.mosaic.well_formed

  pub number_is : m.number ≡ m.spot.row * J + m.spot.col
  number_is = omega (arith, spot_is J m.number, ap (λ (x : ℕ). x * J) m.stands.row, m.stands.col)

  pub tall : m.border.tile.rows ≡ height_of J (heights bytes J) m.number
  tall = R.rows_are m.told m.number refl ∙ height_is w m.number m.stands.tile

  pub wide : m.border.tile.cols ≡ width_of J (widths bytes) m.number
  wide = R.cols_are m.told m.number refl ∙ width_is w m.number m.stands.tile

  pub size : m.border.borders ≡ borders_of bytes m.number
  size = R.borders_are m.told m.number refl

  pub inside : Inside m.border
  inside = rw (m.told.bytes_are, R.end_is m.told m.number refl) (record_whole (w.records m.number m.stands.tile)).inside

  -- its border cell b
  module _ (b : ℕ) where
    pub count_is : record_count m.border b ≡ count_in bytes m.number b
    count_is = ap₂ (λ (x : List ℕ) (y : ℕ). cell_count x y b) m.told.bytes_are m.told.start_is

    pub way_is : record_way m.border b ≡ way_in bytes m.number b
    way_is = ap₂ (λ (x : List ℕ) (y : ℕ). cell_way x y m.border.borders b) m.told.bytes_are m.told.start_is ∙ ap (λ (x : ℕ). cell_way bytes (start_of bytes m.number) x b) size

    pub code_is : record_code m.border b ≡ code_in bytes m.number b
    code_is = ap₂ (λ (x : List ℕ) (y : ℕ). cell_code x y m.border.borders b) m.told.bytes_are m.told.start_is ∙ ap (λ (x : ℕ). cell_code bytes (start_of bytes m.number) x b) size
