-- THE TILED THEOREM, of counts: where the whole sheet has no loop, every step is done, and the finished tiles hold the whole sheet's counts, cell by cell.
-- Assumes nothing.
use mathlib.Core.Bool.{false}
use mathlib.Core.List.{List, []}
use mathlib.Core.Logic.{inl, inr}
use mathlib.Core.Path.{◌≡◌, sym, ap, ap₂, ◌∙◌}
use Prim.Native.Nat.{ℕ, ◌+◌, ◌*◌, ◌<◌, ◌≤◌}
use native.Mathlib.Omega.{arith}
use Rattle.flow.specs.Net.{Counts}
use Rattle.flow.proofs.Loop.{first_loop_free}
use Rattle.flow.proofs.Sum.{test}
use Rattle.flow.proofs.Totals.{counts_weights}
use Rattle.mosaic.specs.Join.{comes_in, comes_at}
use Rattle.mosaic.specs.Layout.{sheet_rows, sheet_cols, height_of, width_of, cells_in, sheet_place, borders_in, borders_before, all_borders, border_sheet_place, place_in}
use Rattle.mosaic.proofs.Borders.{border_at, border_below}
use Rattle.mosaic.proofs.Counted.{comes_fit, comes_dry, tiled_counts}
use Rattle.mosaic.proofs.Cuts.{same_land}
use Rattle.mosaic.proofs.Tiled.{tile_free}
use Rattle.mosaic_join.specs.Joining.{Joined}
use Rattle.mosaic_read.specs.Records.{heights, widths}
use Rattle.mosaic_read.specs.Said.{said_count, said_way, said_code}
use Rattle.promise.specs.Reply.Reply.{reply}
use Rattle.promise.proofs.Apart.{unless_ok, unless_all_ok, unless_some_ok}
use Rattle.sheet.specs.Sheet.{land_at, dest_of, unit, count_at, SheetCounts, SheetNoLoop}
use Rattle.tile.specs.Border.{on_border, border_number, border_cells, border_place}
use Rattle.tile.proofs.Borders as T
use Rattle.tile_finish.specs.Finish as F
use Rattle.tile_finish.proofs.Laying.{comes_on, comes_off}
use Rattle.tiled.specs.Run.{CutSheet, Writing, Joining, Finishing, records_of}
use Rattle.tiled.proofs.Agree.{height_agree, width_agree, cells_agree, at_agree, before_agree, borders_agree}
use Rattle.tiled.proofs.Joins.{fits_told, cut_told, tells_told, sheet_same, cols_same, join_says}
use Rattle.tiled.proofs.Steps.{Wrote, record_says, tile_shape, tile_codes_lem}
use Rattle.tiled.proofs.Told.{same_height, same_width, own, own_counts}

module _ (I J : ℕ) (hs ws : ℕ → ℕ) (sheet : List ℕ) (tiles : ℕ → List ℕ) (s : CutSheet I J hs ws sheet tiles) (w : Writing I J hs ws sheet tiles)
    (free : SheetNoLoop (sheet_rows I hs) (sheet_cols J ws) sheet) where
  tiles_free : (t : ℕ) → t < I * J → SheetNoLoop (height_of J hs t) (width_of J ws t) (tiles t)
  tiles_free = tile_free I J hs ws s.fits sheet tiles s.cut free

  -- each record is written
  wrote : (t : ℕ) → t < I * J → Wrote I J hs ws sheet tiles s w t
  wrote t l = elim (record_says I J hs ws sheet tiles s w t l) [ inl x ↦ absurd (tiles_free t l x.1.0 x.1.1.0 x.1.1.1) | inr u ↦ u ]

  pub records_done : (t : ℕ) → t < I * J → (w.written t).said ≡ reply 0 []
  records_done t l = (wrote t l).said_is

  abbrev bytes : List ℕ
  bytes = records_of I J hs ws sheet tiles w

  abbrev ks : ℕ → ℕ
  ks = heights bytes J

  abbrev vs : ℕ → ℕ
  vs = widths bytes

  abbrev count : ℕ → ℕ
  count = said_count bytes I J

  abbrev way : ℕ → ℕ
  way = said_way bytes I J

  abbrev code : ℕ → ℕ
  code = said_code bytes I J

  tall : (i : ℕ) → i < I → ks i ≡ hs i
  tall = same_height I J hs ws sheet tiles s w wrote

  wide : (j : ℕ) → j < J → vs j ≡ ws j
  wide = same_width I J hs ws sheet tiles s w wrote

  module _ (j : Joining I J hs ws sheet tiles w) where
    joined : Joined I J bytes j.joined
    joined = elim (join_says I J hs ws sheet tiles s w wrote j) [ inl x ↦ absurd (free x.1.0 x.1.1.0 x.1.1.1) | inr u ↦ u.1 ]

    pub join_done : j.joined.said ≡ reply 0 []
    join_done = joined.said_is

    abbrev T' : ℕ → ℕ
    T' = joined.totals

    module _ (c : List ℕ) (counted : SheetCounts (sheet_rows I hs) (sheet_cols J ws) sheet c) where
      -- the same, by the sides that the records tell
      free_told' : SheetNoLoop (sheet_rows I ks) (sheet_cols J vs) sheet
      free_told' = rw (sheet_same I J hs ws sheet tiles s w wrote, cols_same I J hs ws sheet tiles s w wrote) free

      counted_told : SheetCounts (sheet_rows I ks) (sheet_cols J vs) sheet c
      counted_told = rw (sheet_same I J hs ws sheet tiles s w wrote, cols_same I J hs ws sheet tiles s w wrote) counted

      own_told : (t : ℕ) → t < I * J → Counts (cells_in J ks vs t) (dest_of (height_of J ks t) (width_of J vs t) (tiles t)) (unit (tiles t)) (own I J hs ws sheet tiles s w wrote t)
      own_told t l = rw (height_agree I J hs ws ks vs tall wide t l, width_agree I J hs ws ks vs tall wide t l) (own_counts I J hs ws sheet tiles s w wrote t l)

      fit : (h : ℕ) → h < all_borders I J ks vs → comes_in I J ks vs way code T' h ≤ 4194304
      fit = comes_fit I J ks vs (fits_told I J hs ws sheet tiles s w wrote) sheet tiles (cut_told I J hs ws sheet tiles s w wrote) free_told'
          (own I J hs ws sheet tiles s w wrote) count way code (tells_told I J hs ws sheet tiles s w wrote) (count_at c) counted_told own_told T' joined.solve

      dry : (h : ℕ) → h < all_borders I J ks vs → land_at sheet (border_sheet_place I J ks vs h) ≡ false → comes_in I J ks vs way code T' h ≡ 0
      dry = comes_dry I J ks vs (fits_told I J hs ws sheet tiles s w wrote) sheet tiles (cut_told I J hs ws sheet tiles s w wrote) free_told'
          (own I J hs ws sheet tiles s w wrote) count way code (tells_told I J hs ws sheet tiles s w wrote) (count_at c) counted_told own_told T' joined.solve

      module _ (f : Finishing I J hs ws sheet tiles w j) where
        -- what comes in at border cell b of tile t
        in_is : (t b : ℕ) → t < I * J → b < borders_in J ks vs t → count_at (f.incoming t) b ≡ comes_in I J ks vs way code T' (borders_before J ks vs t + b)
        in_is t b l lb =
            f.part t b l (rw (borders_agree I J hs ws ks vs tall wide t l) at lb)
            ∙ ap (λ (x : ℕ). count_at j.joined.incoming (x + b)) (sym (before_agree I J hs ws ks vs tall wide t (omega arith)))
            ∙ joined.comes (borders_before J ks vs t + b) (border_below I J ks vs t b l lb)

        borders_same : (t b : ℕ) → t < I * J → b < border_cells (height_of J hs t) (width_of J ws t) → b < borders_in J ks vs t
        unfolding borders_in
        borders_same t b l lb = rw (height_agree I J hs ws ks vs tall wide t l, width_agree I J hs ws ks vs tall wide t l) lb

        may_come : (t : ℕ) → t < I * J → (b : ℕ) → b < border_cells (height_of J hs t) (width_of J ws t) → F.IncomingOk (height_of J hs t) (width_of J ws t) (tiles t) (f.incoming t) b
        may_come t l b lb =
            let lk = borders_same t b l lb in
            let g = borders_before J ks vs t + b in
            let lg = border_below I J ks vs t b l lk in
            let place : place_in J ks vs t b ≡ border_place (height_of J hs t) (width_of J ws t) b = ap₂ (λ (x y : ℕ). border_place x y b) (height_agree I J hs ws ks vs tall wide t l) (width_agree I J hs ws ks vs tall wide t l) in
            let at : border_sheet_place I J ks vs g ≡ sheet_place I J hs ws t (border_place (height_of J hs t) (width_of J ws t) b) = border_at I J ks vs t b l lk ∙ ap (sheet_place I J ks vs t) place ∙ at_agree I J hs ws ks vs tall wide t _ l in
            record {
              most = omega (arith, in_is t b l lk, fit g lg);
              absent_none = λ a. in_is t b l lk ∙ dry g lg (ap (land_at sheet) at ∙ sym (same_land I J hs ws sheet tiles s.cut t _ l (T.place_in_lem _ _ b lb)) ∙ a);
            }

        pub finished : (t : ℕ) → t < I * J → F.Finished (height_of J hs t) (width_of J ws t) (tiles t) (f.incoming t) (f.finished t)
        finished t l =
            unless_some_ok
            (unless_all_ok (unless_all_ok (unless_ok (unless_ok (f.outcome t l) (tile_shape I J hs ws sheet tiles s t l)) (f.long t l)) (tile_codes_lem I J hs ws sheet tiles s t l)) (may_come t l))
            (λ v first. first_loop_free (tiles_free t l) first)

        -- what comes in at place x of tile t
        comes_same : (t x : ℕ) → t < I * J → x < cells_in J hs ws t → F.comes_at (height_of J hs t) (width_of J ws t) (f.incoming t) x ≡ comes_at I J ks vs way code T' t x
        comes_same t x l lx =
            let h = height_agree I J hs ws ks vs tall wide t l in
            let v = width_agree I J hs ws ks vs tall wide t l in
            let on_same : on_border (height_of J ks t) (width_of J vs t) x ≡ on_border (height_of J hs t) (width_of J ws t) x = ap₂ (λ (a b : ℕ). on_border a b x) h v in
            let number_same : border_number (height_of J ks t) (width_of J vs t) x ≡ border_number (height_of J hs t) (width_of J ws t) x = ap₂ (λ (a b : ℕ). border_number a b x) h v in
            elim (test (on_border (height_of J hs t) (width_of J ws t) x)) [
              | inl e ↦
                  let lb = T.number_below (height_of J hs t) (width_of J ws t) x lx e in
                  comes_on (height_of J hs t) (width_of J ws t) (f.incoming t) x e ∙ in_is t _ l (borders_same t _ l lb)
                  ∙ ap (λ (b : ℕ). comes_in I J ks vs way code T' (borders_before J ks vs t + b)) (sym number_same) ∙ sym (rw (on_same ∙ e))
              | inr e ↦ comes_off (height_of J hs t) (width_of J ws t) (f.incoming t) x e ∙ sym (rw (on_same ∙ e))
            ]

        -- FINISHED TILES HOLD THE WHOLE SHEET'S COUNTS
        pub tiled_whole : (t x : ℕ) → t < I * J → x < cells_in J hs ws t → count_at (f.finished t).counts x ≡ count_at c (sheet_place I J hs ws t x)
        tiled_whole t x l lx =
            tiled_counts I J ks vs (fits_told I J hs ws sheet tiles s w wrote) sheet tiles (cut_told I J hs ws sheet tiles s w wrote) free_told'
            (own I J hs ws sheet tiles s w wrote) count way code (tells_told I J hs ws sheet tiles s w wrote) (count_at c) counted_told own_told T' joined.solve
            (λ t. count_at (f.finished t).counts) finishes t x l (rw (cells_agree I J hs ws ks vs tall wide t l) lx)
            ∙ ap (count_at c) (at_agree I J hs ws ks vs tall wide t x l)
          where
            finishes : (t : ℕ) → t < I * J → Counts (cells_in J ks vs t) (dest_of (height_of J ks t) (width_of J vs t) (tiles t)) (λ x. unit (tiles t) x + comes_at I J ks vs way code T' t x) (count_at (f.finished t).counts)
            finishes t l =
                counts_weights (cells_in J ks vs t) (dest_of (height_of J ks t) (width_of J vs t) (tiles t)) (λ x. unit (tiles t) x + F.comes_at (height_of J hs t) (width_of J ws t) (f.incoming t) x) (λ x. unit (tiles t) x + comes_at I J ks vs way code T' t x) (count_at (f.finished t).counts)
                (λ x lx. ap (λ (y : ℕ). unit (tiles t) x + y) (comes_same t x l (rw (cells_agree I J hs ws ks vs tall wide t l) at lx)))
                (rw (height_agree I J hs ws ks vs tall wide t l, width_agree I J hs ws ks vs tall wide t l) (finished t l).equation)
