-- The tiled theorem, of loops: of a sheet cut into an allowed mosaic, with true records, some tile or the join has a loop exactly where the sheet has one.
-- Assumes nothing.
use mathlib.Core.Path.{◌≡◌, sym, ◌∙◌, subst}
use mathlib.Core.Bool.{Bool, true}
use mathlib.Core.List.{List}
use mathlib.Core.Logic.{◌↔◌}
use Prim.Native.Nat.{ℕ, ◌*◌, ◌≤◌, ◌<◌}
use Rattle.flow.specs.Net.{NoLoop, OnLoop}
use Rattle.flow.proofs.Cut.{kept, kept_out, kept_free}
use Rattle.flow.proofs.Exits.{xto}
use Rattle.flow.proofs.Part.{Part, part_free}
use Rattle.flow.proofs.Joined as F
use Rattle.flow.proofs.Mosaic.{Mosaic, whole_free, join_loop}
use Rattle.sheet.specs.Sheet.{dest_of, SheetNoLoop, SheetOnLoop}
use Rattle.sheet.proofs.Dest.{dest_beyond}
use Rattle.mosaic.specs.Layout.{sheet_rows, sheet_cols, height_of, width_of, cells_in, sheet_place, all_borders, border_tile, number_in_tile, place_in, border_sheet_place, Cut, Fits}
use Rattle.mosaic.specs.Join.{exit_at, leads_to, feeds, TilesFree, Tells}
use Rattle.mosaic.proofs.Grid.{tile_cover}
use Rattle.mosaic.proofs.Borders.{tile_in, cell_in}
use Rattle.mosaic.proofs.Cuts.{cut_at, tile_part, exit_border}
use Rattle.mosaic.proofs.Joins.{cut_free, exit_is}
use Rattle.mosaic.proofs.Feeds.{lands_on, records, feeds_is}

module _ (I J : ℕ) (hs ws : ℕ → ℕ) (fits : Fits I J hs ws) (sheet : List ℕ) (tiles : ℕ → List ℕ) (cut : Cut I J hs ws sheet tiles) where
  -- the cells and the net of the sheet, and which of its arrows are cut; the nets of the tiles; the border cells
  abbrev N : ℕ
  N = sheet_rows I hs * sheet_cols J ws

  abbrev to : ℕ → ℕ
  to = dest_of (sheet_rows I hs) (sheet_cols J ws) sheet

  abbrev C : ℕ → Bool
  C = cut_at I J hs ws sheet

  abbrev ton : ℕ → ℕ → ℕ
  ton t = dest_of (height_of J hs t) (width_of J ws t) (tiles t)

  abbrev M : ℕ
  M = all_borders I J hs ws

  abbrev at : ℕ → ℕ
  at = border_sheet_place I J hs ws

  out : (p : ℕ) → N ≤ p → N ≤ to p
  out = dest_beyond (sheet_rows I hs) (sheet_cols J ws) sheet cut.sheet_long

  tile_out : (t : ℕ) → t < I * J → (x : ℕ) → cells_in J hs ws t ≤ x → cells_in J hs ws t ≤ ton t x
  tile_out t lt = dest_beyond (height_of J hs t) (width_of J ws t) (tiles t) (cut.tile_long t lt)

  -- a tile of a sheet without loops has none
  pub tile_free : SheetNoLoop (sheet_rows I hs) (sheet_cols J ws) sheet → TilesFree I J hs ws tiles
  tile_free free t lt =
      part_free (cells_in J hs ws t) N (ton t) (kept N to C) (sheet_place I J hs ws t) (tile_part I J hs ws sheet tiles cut t lt) (tile_out t lt) (kept_out N to C out) (kept_free N to C out free)

  module _ (counts : ℕ → ℕ → ℕ) (count way code : ℕ → ℕ) where
    -- the join's net
    abbrev join : ℕ → ℕ
    join = feeds I J hs ws way code

    module _ (free : TilesFree I J hs ws tiles) (tells : Tells I J hs ws tiles counts count way code) where
      feeds_same : F.feeds M (λ g. C (at g)) (lands_on I J hs ws way code) (leads_to I J hs ws way) ≡ join
      feeds_same = λ i g. sym (feeds_is I J hs ws fits sheet tiles cut free counts count way code tells g) i

      -- the sheet, its tiles and the join
      pub whole : Mosaic N to C (I * J) (cells_in J hs ws) ton (sheet_place I J hs ws) M join (border_tile I J hs ws) (λ g. place_in J hs ws (border_tile I J hs ws g) (number_in_tile I J hs ws g))
      whole = record {
        out = out;
        tile = tile_part I J hs ws sheet tiles cut;
        tile_out = tile_out;
        cover = tile_cover I J hs ws;
        border = λ g l. (tile_in I J hs ws g l, cell_in I J hs ws g l);
        join = subst (λ f. Part M N f (xto N to C) at) feeds_same
            (F.join_part M N to C at (lands_on I J hs ws way code) (leads_to I J hs ws way) out (records I J hs ws fits sheet tiles cut free counts count way code tells));
        join_out = λ g l. rw (feeds_is I J hs ws fits sheet tiles cut free counts count way code tells g) (F.feeds_out M (λ g. C (at g)) (lands_on I J hs ws way code) (leads_to I J hs ws way) g l);
        exits = exit_border I J hs ws sheet tiles cut;
      }

      -- where no tile has a loop, the sheet has one exactly where the join has one
      pub join_free : SheetNoLoop (sheet_rows I hs) (sheet_cols J ws) sheet ↔ NoLoop M join
      join_free =
          let e = whole_free N to C (I * J) (cells_in J hs ws) ton (sheet_place I J hs ws) M join _ _ whole in
          (λ f. (e.0 f).1, λ f. e.1 (free, f))

      -- a border cell lies on a loop of the join exactly where it is an exit and lies on a loop of the sheet
      pub tiled_loop : (g : ℕ) → g < M → OnLoop M join g ↔ ((exit_at I J hs ws way g ≡ true) × SheetOnLoop (sheet_rows I hs) (sheet_cols J ws) sheet (at g))
      tiled_loop g l =
          let e = join_loop N to C (I * J) (cells_in J hs ws) ton (sheet_place I J hs ws) M join _ _ whole (cut_free I J hs ws fits sheet tiles cut free counts count way code tells) g l in
          let x = exit_is I J hs ws fits sheet tiles cut free counts count way code tells g l in
          (λ o. let (c, k) = e.0 o in (x ∙ c, k), λ o. e.1 (sym x ∙ o.0, o.1))

    -- some step refuses for a loop exactly where the sheet has one; the records are true where no tile has a loop
    pub tiled_free : (TilesFree I J hs ws tiles → Tells I J hs ws tiles counts count way code) → SheetNoLoop (sheet_rows I hs) (sheet_cols J ws) sheet ↔ (TilesFree I J hs ws tiles × NoLoop M join)
    tiled_free tells = (
      λ f. let free = tile_free f in (free, (join_free free (tells free)).0 f),
      λ f. (join_free f.0 (tells f.0)).1 f.1,
    )
