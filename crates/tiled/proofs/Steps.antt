-- Writing the record of a tile of a cut sheet: refused for a loop where the tile has one, and done where it has none.
-- Assumes nothing.
use mathlib.Core.List.{List}
use mathlib.Core.Logic.{◌⊎◌, inl, inr}
use mathlib.Core.Path.{◌≡◌, ap, ◌∙◌}
use Prim.Native.Nat.{ℕ, ◌*◌, ◌/◌, ◌%◌, ◌<◌, ◌≤◌}
use native.Mathlib.Nat.{div-le_self, mod-le}
use native.Mathlib.Omega.{arith}
use Rattle.mosaic.specs.Layout.{height_of, width_of, cells_in, sheet_place}
use Rattle.mosaic.proofs.Grid.{tile_below}
use Rattle.mosaic.proofs.Pieces.{row_in, col_in}
use Rattle.promise.specs.Links.UnlessSome.{refused_with, met_none}
use Rattle.promise.specs.Reply.{number_of}
use Rattle.promise.proofs.Apart.{unless_ok, unless_all_ok}
use Rattle.sheet.specs.Compass.{is_code}
use Rattle.sheet.specs.Shape.{TileShape}
use Rattle.sheet.specs.Sheet.{CodeOk, SheetOnLoop, SheetNoLoop}
use Rattle.sheet.proofs.Passes.{counts_no_loop}
use Rattle.tile_record.specs.Record.{Recorded, RecordAnswer, RecordOutcome, TilePosition}
use Rattle.tiled.specs.Run.{CutSheet, Writing}

module _ (I J : ℕ) (hs ws : ℕ → ℕ) (sheet : List ℕ) (tiles : ℕ → List ℕ) (s : CutSheet I J hs ws sheet tiles) where
  pub tile_shape : (t : ℕ) → t < I * J → TileShape (height_of J hs t) (width_of J ws t)
  tile_shape t l =
      let h = s.fits.heights (t / J) (row_in I J t l) in
      let w = s.fits.widths (t % J) (col_in I J t l) in
      record { some_row = h.0; rows_most = h.1; some_col = w.0; cols_most = w.1 }

  pub tile_codes_lem : (t : ℕ) → t < I * J → (x : ℕ) → x < cells_in J hs ws t → CodeOk (tiles t) x
  tile_codes_lem t l x lx = ap is_code (s.cut.codes t x l lx) ∙ s.codes (sheet_place I J hs ws t x) (tile_below I J hs ws t x l lx)

  tile_position : (t : ℕ) → t < I * J → TilePosition (t / J) (t % J)
  tile_position t l = record { row_most = row_most; col_most = col_most }
    where
      row_most : t / J ≤ 63
      row_most = omega (arith, div-le_self t J, s.fits.tiles_most)

      col_most : t % J ≤ 63
      col_most = omega (arith, mod-le t J, s.fits.tiles_most)

  module _ (w : Writing I J hs ws sheet tiles) where
    -- what is said of tile t, its shape, position, lengths and codes being right
    pub answered : (t : ℕ) → t < I * J → RecordAnswer (height_of J hs t) (width_of J ws t) (t / J) (t % J) (tiles t) (w.bytes t) (w.written t)
    answered t l = unless_all_ok (unless_ok (unless_ok (unless_ok (w.outcome t l) (tile_shape t l)) (tile_position t l)) (w.long t l)) (tile_codes_lem t l)

    -- the record of tile t is written, of its own counts
    abbrev pub Wrote : ℕ → Type 0
    Wrote t = Recorded (height_of J hs t) (width_of J ws t) (t / J) (t % J) (tiles t) (w.written t)

    -- refused for a loop of the tile, or written
    pub record_says : (t : ℕ) → t < I * J → ((number_of (w.written t).said ≡ 4) × ((x : ℕ) × SheetOnLoop (height_of J hs t) (width_of J ws t) (tiles t) x)) ⊎ Wrote t
    record_says t l = go (answered t l)
      where
        go : RecordAnswer (height_of J hs t) (width_of J ws t) (t / J) (t % J) (tiles t) (w.bytes t) (w.written t)
            → ((number_of (w.written t).said ≡ 4) × ((x : ℕ) × SheetOnLoop (height_of J hs t) (width_of J ws t) (tiles t) x)) ⊎ Wrote t
        go (refused_with v a e) = inl (ap (λ (r : RecordOutcome). number_of r.said) e, (v.place, a.here))
        go (met_none n u) = inr u

    pub wrote_free : (t : ℕ) → t < I * J → Wrote t → SheetNoLoop (height_of J hs t) (width_of J ws t) (tiles t)
    wrote_free t l u = counts_no_loop (height_of J hs t) (width_of J ws t) (tiles t) (s.cut.tile_long t l) u.counts u.equation
