-- The border cell that exit b of a tile steps onto: what each way through the code that seeks it needs.
-- Assumes nothing.
use mathlib.Core.Bool.{true}
use mathlib.Core.List.{List}
use mathlib.Core.Path.{◌≡◌, sym, ap, ap₂, ◌∙◌}
use Prim.Native.Nat.{ℕ, ◌+◌, ◌*◌, ◌≤◌, ◌<◌}
use native.Mathlib.Omega.{arith}
use Rattle.sheet.specs.Compass.{is_arrow}
use Rattle.sheet.specs.Leaves.{Cell, SpotIs}
use Rattle.sheet.specs.declared.step.Spot.{Spot}
use Rattle.sheet.proofs.Places.{place_lt}
use Rattle.tile.specs.Border.{edge_at, border_number, border_place}
use Rattle.tile.proofs.Edge.{border_at}
use Rattle.mosaic.specs.Join.{onto}
use Rattle.mosaic.specs.Layout.{height_of, width_of, borders_before}
use Rattle.mosaic.proofs.Borders.{of_below}
use Rattle.mosaic.proofs.Pieces.{row_in, col_in}
use Rattle.mosaic.proofs.Steps.{down, right}
use Rattle.mosaic_read.specs.BorderRecord.{record_code}
use Rattle.mosaic_read.specs.Records.{borders_of, heights, widths, way_in}
use Rattle.mosaic_read.specs.Said.{said_code}
use Rattle.mosaic_step.specs.Line.{piece_after, number_after}
use Rattle.mosaic_step.specs.Mosaic.{all_in}
use Rattle.mosaic_step.specs.Tiles.{IsExit, sought_by}
use Rattle.mosaic_step.specs.declared.tiles.MosaicTile.{MosaicTile}
use Rattle.mosaic_step.specs.declared.tiles.Tiles.{Tiles}
use Rattle.mosaic_step.proofs.Crossing.{Found}
use Rattle.mosaic_step.proofs.Moves.{stays_some}
use Rattle.mosaic_step.proofs.OfTile.{number_is, tall, wide, size, way_is, code_is}
use Rattle.mosaic_step.proofs.Sought.{Standing, exit_code, off_rows, off_cols, onto_tile, sought_in}

module _ (m : MosaicTile) {b : ℕ} (e : IsExit m b) {spot : Spot} (s : SpotIs m.border.tile.rows m.border.tile.cols spot (border_place m.border.tile.rows m.border.tile.cols b)) {a : ℕ} (code : a ≡ record_code m.border b) where
  abbrev I : ℕ
  I = m.tiles.mosaic.tile_rows

  abbrev J : ℕ
  J = m.tiles.mosaic.tile_cols

  abbrev bytes : List ℕ
  bytes = m.tiles.mosaic.records.now

  border : b < borders_of bytes m.number
  border = omega (arith, e.border, size m)

  itself : way_in bytes m.number b ≡ b
  itself = sym (way_is m b) ∙ e.itself

  stood : Standing J bytes m.number b m.border.tile.rows m.border.tile.cols spot.row spot.col a
  stood = record { height = tall m; width = wide m; place_is = s.place_is; row_in = s.row_in; col_in = s.col_in; code = code ∙ code_is m b }

  named : sought_in I J bytes m.number b ≡ sought_by m b
  named = ap (λ (x : ℕ). onto I J (heights bytes J) (widths bytes) (said_code bytes I J) (x + b)) (sym m.before)

  pub arrow : is_arrow a ≡ true
  arrow = exit_code m.tiles.mosaic.well_formed m.stands border itself stood

  module _ {D : ℕ} (d : D ≡ spot.row + down a) where
    -- the row steps off the mosaic
    pub rows_end : piece_after I m.spot.row m.border.tile.rows D ≡ I → sought_by m b ≡ all_in m.tiles.mosaic
    rows_end p = sym named ∙ off_rows m.tiles.mosaic.well_formed m.stands border itself stood d (sym p) (omega arith)

    module _ {k : ℕ} (p : k ≡ piece_after I m.spot.row m.border.tile.rows D) {R : ℕ} (v : R ≡ spot.col + right a) where
      -- the column does
      pub cols_end : piece_after J m.spot.col m.border.tile.cols R ≡ J → sought_by m b ≡ all_in m.tiles.mosaic
      cols_end q = sym named ∙ off_cols m.tiles.mosaic.well_formed m.stands border itself stood d p v (sym q) (omega arith)

      -- neither does: the step is onto row r and column c of the tile n
      module _ (lk : k < I) {q : ℕ} (o : q ≡ piece_after J m.spot.col m.border.tile.cols R) (lq : q < J) (n : MosaicTile) (same : n.tiles ≡ m.tiles) (place : n.spot ≡ record { row = k; col = q }) where
        -- what stays in its tile row, or in its tile column, has not moved back
        pub row_stays : m.spot.row ≡ k → 1 ≤ D
        row_stays = stays_some I m.spot.row m.border.tile.rows D (omega (arith, m.stands.row, row_in I J m.number m.stands.tile)) p

        pub col_stays : m.spot.col ≡ q → 1 ≤ R
        col_stays = stays_some J m.spot.col m.border.tile.cols R (omega (arith, m.stands.col, col_in I J m.number m.stands.tile)) o

        module _ {r c : ℕ} (er : r ≡ number_after m.spot.row D k n.border.tile.rows) (ec : c ≡ number_after m.spot.col R q n.border.tile.cols) where
          -- its sides, in the words of this tile's mosaic
          high : n.border.tile.rows ≡ height_of J (heights bytes J) n.number
          high = tall n ∙ ap (λ (x : Tiles). height_of x.mosaic.tile_cols (heights x.mosaic.records.now x.mosaic.tile_cols) n.number) same

          broad : n.border.tile.cols ≡ width_of J (widths bytes) n.number
          broad = wide n ∙ ap (λ (x : Tiles). width_of x.mosaic.tile_cols (widths x.mosaic.records.now) n.number) same

          first : n.first ≡ borders_before J (heights bytes J) (widths bytes) n.number
          first = n.before ∙ ap (λ (x : Tiles). borders_before x.mosaic.tile_cols (heights x.mosaic.records.now x.mosaic.tile_cols) (widths x.mosaic.records.now) n.number) same

          number : n.number ≡ k * J + q
          number = number_is n ∙ ap₂ (λ (x : Tiles) (y : Spot). y.row * x.mosaic.tile_cols + y.col) same place

          found : Found I J (heights bytes J) (widths bytes) (sought_in I J bytes m.number b) n.number r c
          found = onto_tile m.tiles.mosaic.well_formed m.stands border itself stood d p v o lk lq n.number number high broad er ec

          pub cell : Cell n.border.tile.rows n.border.tile.cols r c
          cell = record {
            rows_fit = omega (arith, n.border.tile.bounds.rows_most);
            cols_fit = omega (arith, n.border.tile.bounds.cols_most);
            row_in = omega (arith, high, found.row_in);
            col_in = omega (arith, broad, found.col_in);
          }

          pub on_edge : edge_at n.border.tile.rows n.border.tile.cols r c ≡ true
          on_edge = rw (high, broad) found.edge

          module _ {x : ℕ} (ex : x ≡ border_number n.border.tile.rows n.border.tile.cols (r * n.border.tile.cols + c)) where
            pub sought : n.first + x ≡ sought_by m b
            sought =
                ap₂ (λ (y z : ℕ). y + z) first (ex ∙ ap₂ (λ (y z : ℕ). border_number y z (r * z + c)) high broad)
                ∙ sym found.is
                ∙ named

            pub below : n.first + x < all_in m.tiles.mosaic
            below =
                let place = r * width_of J (widths bytes) n.number + c in
                rw (sought ∙ sym named ∙ found.is)
                (of_below I J (heights bytes J) (widths bytes) n.number place found.tile (place_lt _ _ r c found.row_in found.col_in) (border_at _ _ r c found.col_in ∙ found.edge))
