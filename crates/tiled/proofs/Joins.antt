-- Joining the records of a cut sheet, all of them written: refused for a loop of the sheet, or done with no exits that feed each other round; and what the
-- records tell is the sheet's own mosaic, cut and tiles.
-- Assumes nothing.
use mathlib.Core.List.{List}
use mathlib.Core.Logic.{◌⊎◌, inl, inr}
use mathlib.Core.Path.{◌≡◌, sym, ap, ◌∙◌}
use Prim.Native.Nat.{ℕ, ◌*◌, ◌<◌}
use Rattle.mosaic.specs.Join.{Tells, TilesFree}
use Rattle.mosaic.specs.Layout.{Fits, Cut, sheet_rows, sheet_cols, all_borders, border_sheet_place}
use Rattle.mosaic.proofs.Tiled.{tiled_loop}
use Rattle.mosaic_join.specs.Joining.{JoinOutcome, JoinExits, Joined, JoinLengths, ExitLoop}
use Rattle.mosaic_read.specs.Read.{MosaicShape}
use Rattle.mosaic_read.specs.Records.{heights, widths}
use Rattle.mosaic_read.specs.Said.{said_count, said_way, said_code}
use Rattle.promise.specs.Links.UnlessSome.{refused_with, met_none}
use Rattle.promise.specs.Reply.{number_of}
use Rattle.promise.proofs.Apart.{unless_ok, unless_all_ok}
use Rattle.sheet.specs.Sheet.{LoopFound}
use Rattle.tiled.specs.Run.{CutSheet, Writing, Joining, records_of, SheetHasLoop}
use Rattle.tiled.proofs.Agree.{rows_agree, cols_agree, height_agree, width_agree, all_agree, fits_agree, cut_agree}
use Rattle.tiled.proofs.Steps.{Wrote, wrote_free}
use Rattle.tiled.proofs.Told.{same_height, same_width, parts_ok, ends_there, own, tells}

module _ (I J : ℕ) (hs ws : ℕ → ℕ) (sheet : List ℕ) (tiles : ℕ → List ℕ) (s : CutSheet I J hs ws sheet tiles) (w : Writing I J hs ws sheet tiles)
    (all : (t : ℕ) → t < I * J → Wrote I J hs ws sheet tiles s w t) where
  abbrev bytes : List ℕ
  bytes = records_of I J hs ws sheet tiles w

  abbrev ks : ℕ → ℕ
  ks = heights bytes J

  abbrev vs : ℕ → ℕ
  vs = widths bytes

  tall : (i : ℕ) → i < I → ks i ≡ hs i
  tall = same_height I J hs ws sheet tiles s w all

  wide : (j : ℕ) → j < J → vs j ≡ ws j
  wide = same_width I J hs ws sheet tiles s w all

  pub fits_told : Fits I J ks vs
  fits_told = fits_agree I J hs ws ks vs tall wide s.fits

  pub cut_told : Cut I J ks vs sheet tiles
  cut_told = cut_agree I J hs ws ks vs tall wide s.cut

  -- loops of the sheet and of the tiles, by the sides that the records tell
  pub sheet_same : sheet_rows I ks ≡ sheet_rows I hs
  sheet_same = rows_agree I J hs ws ks vs tall wide

  pub cols_same : sheet_cols J vs ≡ sheet_cols J ws
  cols_same = cols_agree I J hs ws ks vs tall wide

  pub free_told : TilesFree I J ks vs tiles
  free_told t l = rw (height_agree I J hs ws ks vs tall wide t l, width_agree I J hs ws ks vs tall wide t l) (wrote_free I J hs ws sheet tiles s w t l (all t l))

  pub tells_told : Tells I J ks vs tiles (own I J hs ws sheet tiles s w all) (said_count bytes I J) (said_way bytes I J) (said_code bytes I J)
  tells_told = tells I J hs ws sheet tiles s w all

  module _ (j : Joining I J hs ws sheet tiles w) where
    shape : MosaicShape I J
    shape = record { some_row = s.fits.some_row; some_col = s.fits.some_col; tiles_most = s.fits.tiles_most }

    lengths : JoinLengths I J bytes j.incoming j.work
    lengths =
        let e : all_borders I J ks vs ≡ all_borders I J hs ws = all_agree I J hs ws ks vs tall wide in
        record {
          incoming_long = j.incoming_long ∙ sym e;
          work1_long = j.work1_long ∙ sym e;
          work2_long = j.work2_long ∙ sym e;
          work3_long = j.work3_long ∙ sym e;
          work4_long = j.work4_long ∙ sym e;
          work5_long = j.work5_long;
        }

    -- what is said of the records, all of them well formed
    pub joins : JoinExits I J bytes j.joined
    joins =
        unless_ok (unless_ok (unless_all_ok (unless_ok j.outcome shape) (parts_ok I J hs ws sheet tiles s w all)) (ends_there I J hs ws sheet tiles s w all)) lengths

    -- refused for a loop of the sheet, or joined
    pub join_says : ((number_of j.joined.said ≡ 4) × SheetHasLoop I J hs ws sheet tiles) ⊎ (((v : LoopFound) → ExitLoop I J bytes v → ⊥) × Joined I J bytes j.joined)
    join_says = go joins
      where
        go : JoinExits I J bytes j.joined → ((number_of j.joined.said ≡ 4) × SheetHasLoop I J hs ws sheet tiles) ⊎ (((v : LoopFound) → ExitLoop I J bytes v → ⊥) × Joined I J bytes j.joined)
        go (refused_with v a e) =
            let o = (tiled_loop I J ks vs fits_told sheet tiles cut_told (own I J hs ws sheet tiles s w all) (said_count bytes I J) (said_way bytes I J) (said_code bytes I J) free_told tells_told v.place a.here.0).0 a.here in
            inl (ap (λ (r : JoinOutcome). number_of r.said) e, (border_sheet_place I J ks vs v.place, rw (← sheet_same, ← cols_same) o.1))
        go (met_none n u) = inr (n, u)
