-- What true records say of a border cell of the mosaic, by its place on the sheet.
-- Assumes nothing.
use mathlib.Core.Path.{◌≡◌, sym, ap, ap₂, ◌∙◌}
use mathlib.Core.Bool.{Bool, true, false}
use mathlib.Core.List.{List}
use mathlib.Core.Logic.{inl, inr}
use Prim.Native.Nat.{ℕ, ◌+◌, ◌*◌, ◌≤◌, ◌<◌}
use native.Mathlib.Omega.{arith}
use Rattle.flow.specs.Net.{on, NoLoop}
use Rattle.flow.proofs.Sum.{test}
use Rattle.flow.proofs.Cut.{kept, kept_out}
use Rattle.flow.proofs.Exits as X
use Rattle.flow.proofs.Part.{part_down, part_last}
use Rattle.sheet.specs.Sheet.{code_at, land_at, dest_of}
use Rattle.sheet.proofs.Dest.{dest_beyond}
use Rattle.tile.specs.Way.{crosses, last_cell}
use Rattle.tile.proofs.Ways.{crosses_border, last_in_lem}
use Rattle.mosaic.specs.Layout.{sheet_rows, sheet_cols, height_of, width_of, cells_in, sheet_place, borders_in, borders_before, all_borders, border_tile, number_in_tile, place_in, border_sheet_place, Cut, Fits}
use Rattle.mosaic.specs.Join.{exit_at, is_land, leads_to, own, TilesFree, Tells}
use Rattle.mosaic.proofs.Grid.{tile_cover}
use Rattle.mosaic.proofs.Borders.{border_tile_lem, border_in, border_at, place_in_lem, each_border, of_below, of_at}
use Rattle.mosaic.proofs.Cuts.{cut_at, same_land, cut_is, tile_part}
use Rattle.mosaic.proofs.Told.{exit_in, code_in, land_in, leads_end, leads_none}

module _ (I J : ℕ) (hs ws : ℕ → ℕ) (fits : Fits I J hs ws) (sheet : List ℕ) (tiles : ℕ → List ℕ) (cut : Cut I J hs ws sheet tiles)
    (free : TilesFree I J hs ws tiles)
    (counts : ℕ → ℕ → ℕ) (count way code : ℕ → ℕ) (tells : Tells I J hs ws tiles counts count way code) where
  -- the cells and the net of the sheet, and which of its arrows are cut; the border cells
  abbrev N : ℕ
  N = sheet_rows I hs * sheet_cols J ws

  abbrev to : ℕ → ℕ
  to = dest_of (sheet_rows I hs) (sheet_cols J ws) sheet

  abbrev C : ℕ → Bool
  C = cut_at I J hs ws sheet

  abbrev M : ℕ
  M = all_borders I J hs ws

  abbrev at : ℕ → ℕ
  at = border_sheet_place I J hs ws

  -- the net of tile t, and whether an arrow crosses its edge
  abbrev ton : ℕ → ℕ → ℕ
  ton t = dest_of (height_of J hs t) (width_of J ws t) (tiles t)

  abbrev over : ℕ → ℕ → Bool
  over t = crosses (height_of J hs t) (width_of J ws t) (tiles t)

  out : (p : ℕ) → N ≤ p → N ≤ to p
  out = dest_beyond (sheet_rows I hs) (sheet_cols J ws) sheet cut.sheet_long

  tile_out : (t : ℕ) → t < I * J → (x : ℕ) → cells_in J hs ws t ≤ x → cells_in J hs ws t ≤ ton t x
  tile_out t lt = dest_beyond (height_of J hs t) (width_of J ws t) (tiles t) (cut.tile_long t lt)

  kout : (p : ℕ) → N ≤ p → N ≤ kept N to C p
  kout = kept_out N to C out

  -- the cut net has no loop
  pub cut_free : NoLoop N (kept N to C)
  cut_free p l d =
      let (t, x, lt, lx, e) = tile_cover I J hs ws p l in
      free t lt x lx ((part_down (cells_in J hs ws t) N (ton t) (kept N to C) (sheet_place I J hs ws t) (tile_part I J hs ws sheet tiles cut t lt) (tile_out t lt) kout x x lx lx).1 (rw e d))

  -- ---- border cell g

  -- an exit is a border cell whose arrow is cut
  pub exit_is : (g : ℕ) → g < M → exit_at I J hs ws way g ≡ C (at g)
  exit_is = each_border I J hs ws (λ g. exit_at I J hs ws way g ≡ C (at g)) (λ t b lt lb.
      exit_in I J hs ws fits sheet tiles cut free counts count way code tells t b lt lb
      ∙ sym (ap C (border_at I J hs ws t b lt lb) ∙ cut_is I J hs ws sheet tiles cut t (place_in J hs ws t b) lt (place_in_lem I J hs ws t b lt lb)))

  -- and its code is the code of its way
  pub exit_code : (g : ℕ) → g < M → C (at g) ≡ true → code g ≡ code_at sheet (at g)
  exit_code = each_border I J hs ws (λ g. C (at g) ≡ true → code g ≡ code_at sheet (at g)) (λ t b lt lb c.
      let lx = place_in_lem I J hs ws t b lt lb in
      let e = border_at I J hs ws t b lt lb in
      code_in I J hs ws fits sheet tiles cut free counts count way code tells t b lt lb (sym (cut_is I J hs ws sheet tiles cut t (place_in J hs ws t b) lt lx) ∙ ap C (sym e) ∙ c)
      ∙ cut.codes t (place_in J hs ws t b) lt lx ∙ ap (code_at sheet) (sym e))

  pub land_is : (g : ℕ) → g < M → is_land way code g ≡ land_at sheet (at g)
  land_is = each_border I J hs ws (λ g. is_land way code g ≡ land_at sheet (at g)) (λ t b lt lb.
      land_in I J hs ws fits sheet tiles cut free counts count way code tells t b lt lb
      ∙ same_land I J hs ws sheet tiles cut t (place_in J hs ws t b) lt (place_in_lem I J hs ws t b lt lb) ∙ ap (land_at sheet) (sym (border_at I J hs ws t b lt lb)))

  pub own_is : (g : ℕ) → g < M → own I J hs ws count way g ≡ on (C (at g)) (counts (border_tile I J hs ws g) (place_in J hs ws (border_tile I J hs ws g) (number_in_tile I J hs ws g)))
  unfolding own
  own_is g l = ap₂ on (exit_is g l) (count_at_lem g l)
    where
      count_at_lem : (g : ℕ) → g < M → count g ≡ counts (border_tile I J hs ws g) (place_in J hs ws (border_tile I J hs ws g) (number_in_tile I J hs ws g))
      count_at_lem = each_border I J hs ws (λ g. count g ≡ counts (border_tile I J hs ws g) (place_in J hs ws (border_tile I J hs ws g) (number_in_tile I J hs ws g))) (λ t b lt lb.
          tells.count_is t b lt lb ∙ sym (ap₂ (λ (u v : ℕ). counts u (place_in J hs ws u v)) (border_tile_lem I J hs ws t b lt lb) (border_in I J hs ws t b lt lb)))

  -- ---- its way

  module _ (t b : ℕ) (lt : t < I * J) (lb : b < borders_in J hs ws t) where
    abbrev end : ℕ
    end = last_cell (height_of J hs t) (width_of J ws t) (tiles t) (place_in J hs ws t b)

    end_in : end < cells_in J hs ws t
    end_in = last_in_lem (height_of J hs t) (width_of J ws t) (tiles t) (cut.tile_long t lt) (free t lt) (place_in J hs ws t b) (place_in_lem I J hs ws t b lt lb)

    -- the last cell of its path in the cut net
    way_at_lem : X.way N to C (at (borders_before J hs ws t + b)) ≡ sheet_place I J hs ws t end
    unfolding X.way last_cell
    way_at_lem =
        ap (X.way N to C) (border_at I J hs ws t b lt lb)
        ∙ part_last (cells_in J hs ws t) N (ton t) (kept N to C) (sheet_place I J hs ws t) (tile_part I J hs ws sheet tiles cut t lt) (tile_out t lt) kout (free t lt) cut_free
        (place_in J hs ws t b) (place_in_lem I J hs ws t b lt lb)

    end_cut : C (sheet_place I J hs ws t end) ≡ over t end
    end_cut = cut_is I J hs ws sheet tiles cut t end lt end_in

    way_exit_in : leads_to I J hs ws way (borders_before J hs ws t + b) < M
        → (X.way N to C (at (borders_before J hs ws t + b)) ≡ at (leads_to I J hs ws way (borders_before J hs ws t + b))) × (C (at (leads_to I J hs ws way (borders_before J hs ws t + b))) ≡ true)
    way_exit_in l =
        elim (test (over t end)) [
          | inl o ↦
              let e = leads_end I J hs ws fits sheet tiles cut free counts count way code tells t b lt lb o in
              let k : at (leads_to I J hs ws way (borders_before J hs ws t + b)) ≡ sheet_place I J hs ws t end =
              ap at e ∙ of_at I J hs ws t end lt end_in (crosses_border (height_of J hs t) (width_of J ws t) (tiles t) end o end_in) in
              (way_at_lem ∙ sym k, ap C k ∙ end_cut ∙ o)
          | inr o ↦ absurd (omega (arith, leads_none I J hs ws fits sheet tiles cut free counts count way code tells t b lt lb o))
        ]

    way_ends_in : M ≤ leads_to I J hs ws way (borders_before J hs ws t + b) → C (X.way N to C (at (borders_before J hs ws t + b))) ≡ false
    way_ends_in l =
        elim (test (over t end)) [
          | inl o ↦
              let e = leads_end I J hs ws fits sheet tiles cut free counts count way code tells t b lt lb o in
              absurd (omega (arith, e, of_below I J hs ws t end lt end_in (crosses_border (height_of J hs t) (width_of J ws t) (tiles t) end o end_in)))
          | inr o ↦ ap C way_at_lem ∙ end_cut ∙ o
        ]

  pub way_exit : (g : ℕ) → g < M → leads_to I J hs ws way g < M → (X.way N to C (at g) ≡ at (leads_to I J hs ws way g)) × (C (at (leads_to I J hs ws way g)) ≡ true)
  way_exit = each_border I J hs ws (λ g. leads_to I J hs ws way g < M → (X.way N to C (at g) ≡ at (leads_to I J hs ws way g)) × (C (at (leads_to I J hs ws way g)) ≡ true)) way_exit_in

  pub way_ends : (g : ℕ) → g < M → M ≤ leads_to I J hs ws way g → C (X.way N to C (at g)) ≡ false
  way_ends = each_border I J hs ws (λ g. M ≤ leads_to I J hs ws way g → C (X.way N to C (at g)) ≡ false) way_ends_in
