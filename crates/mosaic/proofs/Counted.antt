-- The tiled theorem, of counts: without a loop, the totals of the exits, what comes in at border cells, and the finished tiles are what the whole sheet's counts say.
-- Assumes nothing.
use mathlib.Core.Path.{◌≡◌, sym, ap, ◌∙◌}
use mathlib.Core.Bool.{Bool, false, ◌&&◌, true≢false}
use mathlib.Core.List.{List}
use mathlib.Core.Logic.{inl, inr}
use Prim.Native.Nat.{ℕ, ◌+◌, ◌*◌, ◌≤◌, ◌<◌}
use native.Mathlib.Omega.{arith}
use native.Mathlib.Nat.{mul-le-mul, mul-mul-mul_comm}
use lib.Dec.{eqb}
use Rattle.flow.specs.Net.{on, sum, Counts}
use Rattle.flow.proofs.Sum.{test, sum_mono, sum_ones}
use Rattle.flow.proofs.Bound.{on_le, counts_bound}
use Rattle.flow.proofs.Cut.{incoming}
use Rattle.flow.proofs.Totals.{counts_weights, incoming_le}
use Rattle.flow.proofs.Joined as F
use Rattle.flow.proofs.Mosaic.{came_count, mosaic}
use Rattle.sheet.specs.Sheet.{land_at, dest_of, unit, SheetNoLoop}
use Rattle.sheet.proofs.Dest.{dest_beyond}
use Rattle.tile.specs.Border.{on_border}
use Rattle.mosaic.specs.Layout.{sheet_rows, sheet_cols, height_of, width_of, cells_in, sheet_place, all_borders, border_tile, number_in_tile, place_in, border_sheet_place, Cut, Fits, number_in_mosaic}
use Rattle.mosaic.specs.Join.{leads_to, feeds, own, Totals, comes_in, comes_at, TilesFree, Tells}
use Rattle.mosaic.proofs.Pieces.{sum_most}
use Rattle.mosaic.proofs.Grid.{tile_below}
use Rattle.mosaic.proofs.Borders.{at_below, of_below, of_at, border_on}
use Rattle.mosaic.proofs.Cuts.{cut_at, same_land}
use Rattle.mosaic.proofs.Totals.{comes_absent}
use Rattle.mosaic.proofs.Joins.{land_is, own_is}
use Rattle.mosaic.proofs.Feeds.{lands_on, records, comes_is}
use Rattle.mosaic.proofs.Tiled.{tile_free, whole}

-- an allowed mosaic has at most 4,194,304 cells
pub cells_fit : (I J : ℕ) (hs ws : ℕ → ℕ) → Fits I J hs ws → sheet_rows I hs * sheet_cols J ws ≤ 4194304
cells_fit I J hs ws fits =
    let a : sum I hs ≤ I * 256 = sum_most I 256 hs (λ i l. (fits.heights i l).1) in
    let b : sum J ws ≤ J * 256 = sum_most J 256 ws (λ j l. (fits.widths j l).1) in
    let c : sum I hs * sum J ws ≤ I * 256 * (J * 256) = mul-le-mul a b in
    omega (arith, fits.tiles_most, mul-mul-mul_comm I 256 J 256)

module _ (I J : ℕ) (hs ws : ℕ → ℕ) (fits : Fits I J hs ws) (sheet : List ℕ) (tiles : ℕ → List ℕ) (cut : Cut I J hs ws sheet tiles)
    (sheet_free : SheetNoLoop (sheet_rows I hs) (sheet_cols J ws) sheet) (counts : ℕ → ℕ → ℕ) (count way code : ℕ → ℕ) (tells : Tells I J hs ws tiles counts count way code)
    (c : ℕ → ℕ) (sheet_counts : Counts (sheet_rows I hs * sheet_cols J ws) (dest_of (sheet_rows I hs) (sheet_cols J ws) sheet) (unit sheet) c)
    (tile_counts : (t : ℕ) → t < I * J → Counts (cells_in J hs ws t) (dest_of (height_of J hs t) (width_of J ws t) (tiles t)) (unit (tiles t)) (counts t))
    (T : ℕ → ℕ) (totals : Totals I J hs ws count way code T) where
  -- the cells and the net of the sheet, and which of its arrows are cut; the nets of the tiles; the border cells
  abbrev N : ℕ
  N = sheet_rows I hs * sheet_cols J ws

  abbrev to : ℕ → ℕ
  to = dest_of (sheet_rows I hs) (sheet_cols J ws) sheet

  abbrev C : ℕ → Bool
  C = cut_at I J hs ws sheet

  abbrev ton : ℕ → ℕ → ℕ
  ton t = dest_of (height_of J hs t) (width_of J ws t) (tiles t)

  abbrev M : ℕ
  M = all_borders I J hs ws

  abbrev at : ℕ → ℕ
  at = border_sheet_place I J hs ws

  -- the place of border cell g in its tile
  abbrev cell : ℕ → ℕ
  cell g = place_in J hs ws (border_tile I J hs ws g) (number_in_tile I J hs ws g)

  free : TilesFree I J hs ws tiles
  free = tile_free I J hs ws fits sheet tiles cut sheet_free

  out : (p : ℕ) → N ≤ p → N ≤ to p
  out = dest_beyond (sheet_rows I hs) (sheet_cols J ws) sheet cut.sheet_long

  same_unit : (t x : ℕ) → t < I * J → x < cells_in J hs ws t → unit (tiles t) x ≡ unit sheet (sheet_place I J hs ws t x)
  same_unit t x lt lx = ap (λ b. on b 1) (same_land I J hs ws sheet tiles cut t x lt lx)

  joined : Counts M (feeds I J hs ws way code) (λ g. on (C (at g)) (counts (border_tile I J hs ws g) (cell g))) T
  joined = counts_weights M (feeds I J hs ws way code) (own I J hs ws count way) (λ g. on (C (at g)) (counts (border_tile I J hs ws g) (cell g))) T
      (own_is I J hs ws fits sheet tiles cut free counts count way code tells) totals

  -- what comes in at border cell h, by the exits whose arrow ends there
  comes_to : (h : ℕ) → h < M → comes_in I J hs ws way code T h ≡ sum M (λ g. on (C (at g) && eqb (to (at g)) (at h)) (T g))
  comes_to h l =
      comes_is I J hs ws fits sheet tiles cut free counts count way code tells T h l
      ∙ sym (F.join_in M N to C at (lands_on I J hs ws way code) (leads_to I J hs ws way) out (records I J hs ws fits sheet tiles cut free counts count way code tells) T h l)

  -- is what comes in there over the edge, by the sheet's counts
  pub tiled_incoming : (h : ℕ) → h < M → comes_in I J hs ws way code T h ≡ incoming N to C c (at h)
  tiled_incoming h l =
      comes_to h l
      ∙ came_count N to C (I * J) (cells_in J hs ws) ton (sheet_place I J hs ws) M (feeds I J hs ws way code) (border_tile I J hs ws) cell
      (whole I J hs ws fits sheet tiles cut counts count way code free tells) sheet_free (unit sheet) c sheet_counts (λ t. unit (tiles t)) counts same_unit tile_counts T joined (at h)

  -- and no more than is counted there
  pub comes_bound : (h : ℕ) → h < M → comes_in I J hs ws way code T h ≤ c (at h)
  comes_bound h l = omega (arith, tiled_incoming h l, incoming_le N to C (unit sheet) c sheet_counts (at h) (at_below I J hs ws h l))

  -- so finishing takes it
  pub comes_fit : (h : ℕ) → h < M → comes_in I J hs ws way code T h ≤ 4194304
  comes_fit h l =
      omega (
        arith,
        comes_bound h l,
        counts_bound N to out sheet_free (unit sheet) c sheet_counts (at h) (at_below I J hs ws h l),
        sum_mono {n = N} {f = unit sheet} {g = λ q. 1} (λ q lq. on_le (land_at sheet q) 1),
        sum_ones N,
        cells_fit I J hs ws fits,
      )

  -- nothing comes in where the sheet has no land
  pub comes_dry : (h : ℕ) → h < M → land_at sheet (at h) ≡ false → comes_in I J hs ws way code T h ≡ 0
  comes_dry h l e = comes_absent I J hs ws way code T h (land_is I J hs ws fits sheet tiles cut free counts count way code tells h l ∙ e)

  came : (t x : ℕ) → t < I * J → x < cells_in J hs ws t → comes_at I J hs ws way code T t x ≡ sum M (λ g. on (C (at g) && eqb (to (at g)) (sheet_place I J hs ws t x)) (T g))
  came t x lt lx =
      elim (test (on_border (height_of J hs t) (width_of J ws t) x)) [
        | inl e ↦
            rw e
            (comes_to (number_in_mosaic J hs ws t x) (of_below I J hs ws t x lt lx e)
            ∙ ap (λ (p : ℕ). sum M (λ g. on (C (at g) && eqb (to (at g)) p) (T g))) (of_at I J hs ws t x lt lx e))
        | inr e ↦
            rw e
            (sym (F.none_in M N to C at (lands_on I J hs ws way code) (leads_to I J hs ws way) out (records I J hs ws fits sheet tiles cut free counts count way code tells) T
            (sheet_place I J hs ws t x) (tile_below I J hs ws t x lt lx) (λ h lh k. true≢false (sym (border_on I J hs ws t x h lt lx lh k) ∙ e))))
      ]

  -- finished tiles hold the sheet's counts
  pub tiled_counts : (f : ℕ → ℕ → ℕ) → ((t : ℕ) → t < I * J → Counts (cells_in J hs ws t) (ton t) (λ x. unit (tiles t) x + comes_at I J hs ws way code T t x) (f t))
      → (t x : ℕ) → t < I * J → x < cells_in J hs ws t → f t x ≡ c (sheet_place I J hs ws t x)
  tiled_counts f finishes =
      mosaic N to C (I * J) (cells_in J hs ws) ton (sheet_place I J hs ws) M (feeds I J hs ws way code) (border_tile I J hs ws) cell
      (whole I J hs ws fits sheet tiles cut counts count way code free tells) sheet_free (unit sheet) c sheet_counts (λ t. unit (tiles t)) counts same_unit tile_counts T joined
      (comes_at I J hs ws way code T) f came finishes
