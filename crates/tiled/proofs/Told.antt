-- The records of a cut sheet say its mosaic's sides again, they are all well formed, and they tell the truth of its tiles.
-- Assumes nothing.
use mathlib.Core.List.{List}
use mathlib.Core.Logic.{inl, inr}
use mathlib.Core.Path.{◌≡◌, sym, ap, ap₂, ◌∙◌}
use Prim.Native.Nat.{ℕ, zero, suc, ◌*◌, ◌/◌, ◌%◌, ◌<◌}
use native.Mathlib.Nat.{mul-le-mul_right, mul-div_cancel, div-le_self, mod-le, mod-eq_of_lt}
use native.Mathlib.Omega.{arith}
use lib.ListN.{length}
use Rattle.flow.specs.Net.{sum, Counts}
use Rattle.flow.proofs.Through.{through}
use Rattle.flow.proofs.Count.{counts_through, through_counts}
use Rattle.flow.proofs.Sum.{test}
use Rattle.mosaic.specs.Join.{Tells}
use Rattle.mosaic.specs.Layout.{height_of, width_of, cells_in, borders_in, place_in}
use Rattle.mosaic.proofs.Borders.{border_tile_lem, border_in}
use Rattle.mosaic.proofs.Pieces.{row_in, col_in, starts_rise}
use Rattle.mosaic_read.specs.Records.{start_of, rows_of, cols_of, borders_of, heights, widths, PartOk, PlacedOk}
use Rattle.mosaic_read.specs.Said.{said_count, said_way, said_code}
use Rattle.sheet.specs.Sheet.{dest_of, unit, count_at, land_at}
use Rattle.sheet.proofs.Dest.{dest_beyond}
use Rattle.tile.specs.Border.{border_cells, border_place}
use Rattle.tile.specs.Way.{Way, crosses, last_cell, way_at}
use Rattle.tile.proofs.Borders as T
use Rattle.tile.proofs.Cells.{cells_most}
use Rattle.tile.proofs.Ways.{way_absent, way_inside, way_over, way_number}
use Rattle.tiled.specs.Run.{CutSheet, Writing, records_of}
use Rattle.tiled.proofs.Agree.{borders_agree, height_agree, width_agree, rows_agree, cols_agree}
use Rattle.tiled.proofs.Read.{bytes_long, start_is, rows_at, cols_at_lem, row_at, col_at_lem, count_at_lem, way_at_lem, code_at, sides_ok, counts_ok, ways_ok}
use Rattle.tiled.proofs.Steps.{tile_shape, Wrote, wrote_free}

module _ (I J : ℕ) (hs ws : ℕ → ℕ) (sheet : List ℕ) (tiles : ℕ → List ℕ) (s : CutSheet I J hs ws sheet tiles) (w : Writing I J hs ws sheet tiles)
    (all : (t : ℕ) → t < I * J → Wrote I J hs ws sheet tiles s w t) where
  abbrev bytes : List ℕ
  bytes = records_of I J hs ws sheet tiles w

  -- the sides as the records tell them
  abbrev ks : ℕ → ℕ
  ks = heights bytes J

  abbrev vs : ℕ → ℕ
  vs = widths bytes

  start : (t : ℕ) → t < I * J → start_of bytes t ≡ sum t (λ u. length (w.written u).bytes)
  start t l = start_is I J hs ws sheet tiles s w all t (omega arith)

  rows_is : (t : ℕ) → t < I * J → rows_of bytes t ≡ height_of J hs t
  rows_is t l = rows_at I J hs ws sheet tiles s w all t l (start_of bytes t) (start t l)

  cols_is : (t : ℕ) → t < I * J → cols_of bytes t ≡ width_of J ws t
  cols_is t l = cols_at_lem I J hs ws sheet tiles s w all t l (start_of bytes t) (start t l)

  pub same_height : (i : ℕ) → i < I → ks i ≡ hs i
  unfolding heights
  same_height i l =
      rows_is (i * J) (omega (arith, mul-le-mul_right J l, s.fits.some_col)) ∙ ap hs (mul-div_cancel i s.fits.some_col)

  pub same_width : (j : ℕ) → j < J → vs j ≡ ws j
  unfolding widths
  same_width j l = cols_is j (omega (arith, mul-le-mul_right J s.fits.some_row)) ∙ ap ws (mod-eq_of_lt l)

  -- ---- all is well formed

  small_way : (t : ℕ) → t < I * J → (b : ℕ) → b < border_cells (height_of J hs t) (width_of J ws t) → (way_at (height_of J hs t) (width_of J ws t) (tiles t) (border_place (height_of J hs t) (width_of J ws t) b)).number < 65536
  small_way t l b lb =
      let h = height_of J hs t in
      let v = width_of J ws t in
      let p = border_place h v b in
      let inside = T.place_in_lem h v b lb in
      let long = s.cut.tile_long t l in
      let free = wrote_free I J hs ws sheet tiles s w t l (all t l) in
      elim (test (land_at (tiles t) p)) [
        | inr a ↦ omega (arith, ap (λ (x : Way). x.number) (way_absent h v (tiles t) p a))
        | inl a ↦ elim (test (crosses h v (tiles t) (last_cell h v (tiles t) p))) [
          | inl x ↦ omega (arith, ap (λ (x : Way). x.number) (way_over h v (tiles t) p a x), way_number h v (tiles t) long free p inside x, cells_most h v (tile_shape I J hs ws sheet tiles s t l))
          | inr x ↦ omega (arith, ap (λ (x : Way). x.number) (way_inside h v (tiles t) p a x))
        ]
      ]

  placed : (t : ℕ) → t < I * J → PlacedOk bytes J t
  placed t l =
      let li = row_in I J t l in
      let lj = col_in I J t l in
      record {
        row = row_at I J hs ws sheet tiles s w all t l (start_of bytes t) (start t l) (omega (arith, div-le_self t J, s.fits.tiles_most));
        col = col_at_lem I J hs ws sheet tiles s w all t l (start_of bytes t) (start t l) (omega (arith, mod-le t J, s.fits.tiles_most));
        height = rows_is t l ∙ sym (same_height (t / J) li);
        width = cols_is t l ∙ sym (same_width (t % J) lj);
        rows_most = omega (arith, starts_rise ks (suc (t / J)) I li, rows_agree I J hs ws ks vs same_height same_width, s.fits.rows_most);
        cols_most = omega (arith, starts_rise vs (suc (t % J)) J lj, cols_agree I J hs ws ks vs same_height same_width, s.fits.cols_most);
      }

  borders_is : (t : ℕ) → t < I * J → borders_of bytes t ≡ border_cells (height_of J hs t) (width_of J ws t)
  unfolding borders_of
  borders_is t l = ap₂ border_cells (rows_is t l) (cols_is t l)

  part_ok : (t part : ℕ) → t < I * J → PartOk bytes J t part
  part_ok t zero l = sides_ok I J hs ws sheet tiles s w all t l (start_of bytes t) (start t l)
  part_ok t (suc zero) l = placed t l
  part_ok t (suc (suc zero)) l = rw (borders_is t l, rows_is t l, cols_is t l) (counts_ok I J hs ws sheet tiles s w all t l (start_of bytes t) (start t l))
  part_ok t (suc (suc (suc more))) l = rw (borders_is t l, rows_is t l, cols_is t l) (ways_ok I J hs ws sheet tiles s w all t l (start_of bytes t) (start t l) (small_way t l))

  pub parts_ok : (m : ℕ) → m < 4 * (I * J) → PartOk bytes J (m / 4) (m % 4)
  parts_ok m l = part_ok (m / 4) (m % 4) (omega arith)

  pub ends_there : length bytes ≡ start_of bytes (I * J)
  ends_there = bytes_long I J hs ws sheet tiles s w all ∙ sym (start_is I J hs ws sheet tiles s w all (I * J) (omega arith))

  -- ---- and tells the truth

  -- a tile's own counts
  abbrev pub own : ℕ → ℕ → ℕ
  own t = through (cells_in J hs ws t) (dest_of (height_of J hs t) (width_of J ws t) (tiles t)) (unit (tiles t))

  pub own_counts : (t : ℕ) → t < I * J → Counts (cells_in J hs ws t) (dest_of (height_of J hs t) (width_of J ws t) (tiles t)) (unit (tiles t)) (own t)
  own_counts t l =
      through_counts (cells_in J hs ws t) (dest_of (height_of J hs t) (width_of J ws t) (tiles t)) (dest_beyond (height_of J hs t) (width_of J ws t) (tiles t) (s.cut.tile_long t l))
      (wrote_free I J hs ws sheet tiles s w t l (all t l)) (unit (tiles t))

  own_is : (t : ℕ) (l : t < I * J) (x : ℕ) → x < cells_in J hs ws t → count_at (all t l).counts x ≡ own t x
  own_is t l x lx =
      counts_through (cells_in J hs ws t) (dest_of (height_of J hs t) (width_of J ws t) (tiles t)) (dest_beyond (height_of J hs t) (width_of J ws t) (tiles t) (s.cut.tile_long t l))
      (wrote_free I J hs ws sheet tiles s w t l (all t l)) (unit (tiles t)) (count_at (all t l).counts) (all t l).equation x lx

  -- a border cell as the records number it
  below : (t b : ℕ) → t < I * J → b < borders_in J ks vs t → b < border_cells (height_of J hs t) (width_of J ws t)
  unfolding borders_in
  below t b l lb = rw (borders_agree I J hs ws ks vs same_height same_width t l) at lb

  place_same : (t b : ℕ) → t < I * J → place_in J ks vs t b ≡ border_place (height_of J hs t) (width_of J ws t) b
  place_same t b l = ap₂ (λ (x y : ℕ). border_place x y b) (height_agree I J hs ws ks vs same_height same_width t l) (width_agree I J hs ws ks vs same_height same_width t l)

  pub tells : Tells I J ks vs tiles own (said_count bytes I J) (said_way bytes I J) (said_code bytes I J)
  unfolding said_count said_way said_code
  tells = record {
    count_is = λ t b l lb.
        rw (border_tile_lem I J ks vs t b l lb, border_in I J ks vs t b l lb)
        (count_at_lem I J hs ws sheet tiles s w all t l (start_of bytes t) (start t l) b (below t b l lb) ∙ own_is t l _ (T.place_in_lem _ _ b (below t b l lb)) ∙ ap (own t) (sym (place_same t b l)));
    way_is = λ t b l lb.
        rw (border_tile_lem I J ks vs t b l lb, border_in I J ks vs t b l lb, borders_is t l)
        (way_at_lem I J hs ws sheet tiles s w all t l (start_of bytes t) (start t l) b (below t b l lb) (small_way t l b (below t b l lb)) ∙ ap (λ (x : Way). x.number) (way_same t b l));
    code_is = λ t b l lb.
        rw (border_tile_lem I J ks vs t b l lb, border_in I J ks vs t b l lb, borders_is t l)
        (code_at I J hs ws sheet tiles s w all t l (start_of bytes t) (start t l) b (below t b l lb) ∙ ap (λ (x : Way). x.code) (way_same t b l));
  }
    where
      way_same : (t b : ℕ) → t < I * J
          → way_at (height_of J hs t) (width_of J ws t) (tiles t) (border_place (height_of J hs t) (width_of J ws t) b) ≡ way_at (height_of J ks t) (width_of J vs t) (tiles t) (place_in J ks vs t b)
      way_same t b l =
          let h = height_agree I J hs ws ks vs same_height same_width t l in
          let v = width_agree I J hs ws ks vs same_height same_width t l in
          ap₂ (λ (x y : ℕ). way_at x y (tiles t) (border_place x y b)) (sym h) (sym v)
