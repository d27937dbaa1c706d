-- What true records say of border cell b of tile t: whether it is an exit, whether it is land, and where its way is.
-- Assumes nothing.
use mathlib.Core.Path.{◌≡◌, sym, ap, ap₂, ◌∙◌}
use mathlib.Core.Bool.{Bool, true, false, true≢false}
use mathlib.Core.List.{List}
use mathlib.Core.Logic.{inl, inr}
use Prim.Native.Nat.{ℕ, ◌+◌, ◌*◌, ◌/◌, ◌%◌, ◌≤◌, ◌<◌}
use native.Mathlib.Omega.{arith}
use lib.Dec.{eqb}
use borrow.Author.Tests.{eq-eqb, ne_eqb}
use Rattle.flow.proofs.Last.{last_past}
use Rattle.flow.proofs.Sum.{test}
use Rattle.sheet.specs.Shape.{TileShape}
use Rattle.sheet.specs.Sheet.{code_at, land_at, dest_of}
use Rattle.sheet.proofs.Dest.{dest_absent}
use Rattle.tile.specs.Border.{border_number}
use Rattle.tile.specs.Way.{crosses, last_cell}
use Rattle.tile.proofs.Borders as B
use Rattle.tile.proofs.Cells.{cells_most}
use Rattle.tile.proofs.Ways.{crosses_land, crosses_last, way_absent, way_inside, way_over, way_number, way_place}
use Rattle.mosaic.specs.Layout.{height_of, width_of, cells_in, borders_in, borders_before, all_borders, place_in, Cut, Fits, number_in_mosaic}
use Rattle.mosaic.specs.Join.{exit_at, is_land, leads_to, TilesFree, Tells}
use Rattle.mosaic.proofs.Pieces.{row_in, col_in}
use Rattle.mosaic.proofs.Borders.{border_tile_lem, border_in, place_in_lem}

module _ (I J : ℕ) (hs ws : ℕ → ℕ) (fits : Fits I J hs ws) where
  -- a tile of an allowed mosaic has an allowed shape
  pub tile_shape : (t : ℕ) → t < I * J → TileShape (height_of J hs t) (width_of J ws t)
  tile_shape t l =
      let (a, b) = fits.heights (t / J) (row_in I J t l) in
      let (c, d) = fits.widths (t % J) (col_in I J t l) in
      record { some_row = a; rows_most = b; some_col = c; cols_most = d }

  -- so no border number is the number that means none
  pub borders_most : (t : ℕ) → t < I * J → borders_in J hs ws t ≤ 1020
  unfolding borders_in
  borders_most t l = cells_most (height_of J hs t) (width_of J ws t) (tile_shape t l)

  module _ (sheet : List ℕ) (tiles : ℕ → List ℕ) (cut : Cut I J hs ws sheet tiles) (free : TilesFree I J hs ws tiles)
      (counts : ℕ → ℕ → ℕ) (count way code : ℕ → ℕ) (tells : Tells I J hs ws tiles counts count way code)
      (t b : ℕ) (lt : t < I * J) (lb : b < borders_in J hs ws t) where
    -- its number in the mosaic, its place in its tile, and the last cell of its path there
    abbrev g : ℕ
    g = borders_before J hs ws t + b

    abbrev x : ℕ
    x = place_in J hs ws t b

    abbrev end : ℕ
    end = last_cell (height_of J hs t) (width_of J ws t) (tiles t) x

    -- place y's arrow crosses the tile's edge
    abbrev over : ℕ → Bool
    over = crosses (height_of J hs t) (width_of J ws t) (tiles t)

    lx : x < cells_in J hs ws t
    lx = place_in_lem I J hs ws t b lt lb

    -- the three things that a record may say
    data Said : Type 0 where
      absent : land_at (tiles t) x ≡ false → way g ≡ 65535 → code g ≡ 255 → Said
      inside : land_at (tiles t) x ≡ true → over end ≡ false → way g ≡ 65535 → code g ≡ 0 → Said
      leaves : land_at (tiles t) x ≡ true → over end ≡ true → way g ≡ border_number (height_of J hs t) (width_of J ws t) end → code g ≡ code_at (tiles t) end → Said

    said : Said
    said =
        let w = tells.way_is t b lt lb in
        let c = tells.code_is t b lt lb in
        elim (test (land_at (tiles t) x)) [
          | inl a ↦ elim (test (over end)) [
            | inl o ↦ (let e = way_over (height_of J hs t) (width_of J ws t) (tiles t) x a o in leaves a o (w ∙ ap (λ r. r.number) e) (c ∙ ap (λ r. r.code) e))
            | inr o ↦ (let e = way_inside (height_of J hs t) (width_of J ws t) (tiles t) x a o in inside a o (w ∙ ap (λ r. r.number) e) (c ∙ ap (λ r. r.code) e))
          ]
          | inr a ↦ (let e = way_absent (height_of J hs t) (width_of J ws t) (tiles t) x a in absent a (w ∙ ap (λ r. r.number) e) (c ∙ ap (λ r. r.code) e))
        ]

    -- a way over the edge is a border number of the tile, of the last cell
    end_number : over end ≡ true → border_number (height_of J hs t) (width_of J ws t) end < borders_in J hs ws t
    unfolding borders_in
    end_number = way_number (height_of J hs t) (width_of J ws t) (tiles t) (cut.tile_long t lt) (free t lt) x lx

    end_place : over end ≡ true → place_in J hs ws t (border_number (height_of J hs t) (width_of J ws t) end) ≡ end
    end_place = way_place (height_of J hs t) (width_of J ws t) (tiles t) (cut.tile_long t lt) (free t lt) x lx

    own_number : border_number (height_of J hs t) (width_of J ws t) x ≡ b
    unfolding borders_in
    own_number = B.place_number (height_of J hs t) (width_of J ws t) b lb

    -- a cell that is no land does not cross
    land_crosses : land_at (tiles t) x ≡ false → over x ≡ false
    land_crosses a = elim (test (over x)) [ inl o ↦ absurd (true≢false (sym (crosses_land (height_of J hs t) (width_of J ws t) (tiles t) x o) ∙ a)) | inr o ↦ o ]

    -- and is the last of its path
    absent_end : land_at (tiles t) x ≡ false → over end ≡ false
    unfolding last_cell
    absent_end a =
        ap over (last_past (cells_in J hs ws t) (dest_of (height_of J hs t) (width_of J ws t) (tiles t)) x (omega (arith, dest_absent (height_of J hs t) (width_of J ws t) (tiles t) x a)))
        ∙ land_crosses a

    crosses_end : over x ≡ true → end ≡ x
    crosses_end = crosses_last (height_of J hs t) (width_of J ws t) (tiles t) x

    -- it is an exit exactly where its arrow crosses the tile's edge
    itself : Said → eqb (way g) b ≡ over x
    itself (absent a w c) = ne_eqb (way g) b (λ e. omega (arith, borders_most t lt)) ∙ sym (land_crosses a)
    itself (inside a o w c) =
        ne_eqb (way g) b (λ e. omega (arith, borders_most t lt))
        ∙ sym (elim (test (over x)) [ inl k ↦ absurd (true≢false (sym (ap over (crosses_end k) ∙ k) ∙ o)) | inr k ↦ k ])
    itself (leaves a o w c) =
        elim (test (over x)) [
          | inl k ↦ eq-eqb (way g) b (w ∙ ap (border_number (height_of J hs t) (width_of J ws t)) (crosses_end k) ∙ own_number) ∙ sym k
          | inr k ↦
              ne_eqb (way g) b (λ e. true≢false (sym o ∙ ap over (sym (end_place o) ∙ ap (place_in J hs ws t) (sym w ∙ e)) ∙ k)) ∙ sym k
        ]

    pub exit_in : exit_at I J hs ws way g ≡ over x
    unfolding exit_at
    exit_in = ap (eqb (way g)) (border_in I J hs ws t b lt lb) ∙ itself said

    -- and has then its own code
    own_code : Said → over x ≡ true → code g ≡ code_at (tiles t) x
    own_code (absent a w c) k = absurd (true≢false (sym k ∙ land_crosses a))
    own_code (inside a o w c) k = absurd (true≢false (sym (ap over (crosses_end k) ∙ k) ∙ o))
    own_code (leaves a o w c) k = c ∙ ap (code_at (tiles t)) (crosses_end k)

    pub code_in : over x ≡ true → code g ≡ code_at (tiles t) x
    code_in = own_code said

    -- land is told from absent
    is_land_lem : Said → is_land way code g ≡ land_at (tiles t) x
    unfolding is_land
    is_land_lem (absent a w c) = rw (w, c) (sym a)
    is_land_lem (inside a o w c) = rw (w, c) (sym a)
    is_land_lem (leaves a o w c) = rw (ne_eqb (way g) 65535 (λ e. omega (arith, end_number o, borders_most t lt))) (sym a)

    pub land_in : is_land way code g ≡ land_at (tiles t) x
    land_in = is_land_lem said

    -- where the last cell crosses, the way leads to it; otherwise to none
    to_end : Said → (over end ≡ true → leads_to I J hs ws way g ≡ number_in_mosaic J hs ws t end) × (over end ≡ false → leads_to I J hs ws way g ≡ all_borders I J hs ws)
    unfolding leads_to
    to_end (absent a w c) = (λ k. absurd (true≢false (sym k ∙ absent_end a)), λ k. rw w)
    to_end (inside a o w c) = (λ k. absurd (true≢false (sym k ∙ o)), λ k. rw w)
    to_end (leaves a o w c) = (
      λ k. rw (ne_eqb (way g) 65535 (λ e. omega (arith, end_number o, borders_most t lt))) (ap₂ (λ (u v : ℕ). borders_before J hs ws u + v) (border_tile_lem I J hs ws t b lt lb) w),
      λ k. absurd (true≢false (sym o ∙ k)),
    )

    pub leads_end : over end ≡ true → leads_to I J hs ws way g ≡ number_in_mosaic J hs ws t end
    leads_end = (to_end said).0

    pub leads_none : over end ≡ false → leads_to I J hs ws way g ≡ all_borders I J hs ws
    leads_none = (to_end said).1
