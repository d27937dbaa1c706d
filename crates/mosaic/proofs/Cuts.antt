-- A sheet and its tiles: each tile, counted by itself, is a part of the sheet's net without the arrows that cross an edge.
-- Assumes nothing.
use mathlib.Core.Path.{◌≡◌, refl, sym, ap, ◌∙◌}
use mathlib.Core.Bool.{Bool, true, false, not, ◌&&◌, and-false, true≢false}
use mathlib.Core.List.{List}
use mathlib.Core.Logic.{inl, inr}
use Prim.Native.Nat.{ℕ, ◌*◌, ◌≤◌, ◌<◌}
use native.Mathlib.Omega.{arith}
use lib.Dec.{eqb, ltb}
use borrow.Author.Tests.{eqb-true, eqb-false, eq-eqb, ne_eqb, lt-ltb, le-ltb}
use Rattle.flow.proofs.Sum.{test}
use Rattle.flow.proofs.Walk.{below}
use Rattle.flow.proofs.Cut.{kept, kept_one}
use Rattle.flow.proofs.Exits.{kept_cut, kept_whole}
use Rattle.flow.proofs.Part.{Part}
use Rattle.sheet.specs.Compass.{is_arrow, step_of}
use Rattle.sheet.specs.Sheet.{code_at, land_at, step_from, dest_of}
use Rattle.sheet.proofs.Dest.{dest_land, dest_step, from_land, to_land}
use Rattle.tile.specs.Way.{crosses}
use Rattle.tile.proofs.Ways.{crosses_border, steps_in, steps_out}
use Rattle.mosaic.specs.Layout.{sheet_rows, sheet_cols, height_of, width_of, cells_in, sheet_place, all_borders, border_sheet_place, Cut, number_in_mosaic}
use Rattle.mosaic.proofs.Grid.{tile_of, tile_is, tile_below, tile_places, tile_cover}
use Rattle.mosaic.proofs.Borders.{of_below, of_at}
use Rattle.mosaic.proofs.Neighbours.{step_stays, step_leaves}

module _ (I J : ℕ) (hs ws : ℕ → ℕ) (sheet : List ℕ) where
  -- the number of cells of the sheet
  abbrev N : ℕ
  N = sheet_rows I hs * sheet_cols J ws

  -- the place that p's arrow steps onto
  abbrev next : ℕ → ℕ
  next p = step_from (sheet_rows I hs) (sheet_cols J ws) (step_of (code_at sheet p)) p

  -- where p's water goes on the sheet
  abbrev to : ℕ → ℕ
  to = dest_of (sheet_rows I hs) (sheet_cols J ws) sheet

  -- p is land, and its arrow crosses its tile's edge
  unfoldable pub cut_at : ℕ → Bool
  cut_at p = land_at sheet p && not (ltb (next p) N && eqb (tile_of I J hs ws (next p)) (tile_of I J hs ws p))

  -- ---- each way through the definition

  cut_absent : (p : ℕ) → land_at sheet p ≡ false → cut_at p ≡ false
  unfolding cut_at
  cut_absent p a = rw a

  pub cut_land : (p : ℕ) → cut_at p ≡ true → land_at sheet p ≡ true
  cut_land p c = elim (test (land_at sheet p)) [ inl a ↦ a | inr a ↦ absurd (true≢false (sym c ∙ cut_absent p a)) ]

  cut_off : (p : ℕ) → land_at sheet p ≡ true → N ≤ next p → cut_at p ≡ true
  unfolding cut_at
  cut_off p a l = rw (a, le-ltb (next p) N l)

  cut_over : (p : ℕ) → land_at sheet p ≡ true → (tile_of I J hs ws (next p) ≡ tile_of I J hs ws p → ⊥) → cut_at p ≡ true
  unfolding cut_at
  cut_over p a d = rw (a, ne_eqb _ _ d, and-false (ltb (next p) N))

  cut_in : (p : ℕ) → next p < N → tile_of I J hs ws (next p) ≡ tile_of I J hs ws p → cut_at p ≡ false
  unfolding cut_at
  cut_in p l e = elim (test (land_at sheet p)) [ inl a ↦ rw (a, lt-ltb (next p) N l, eq-eqb _ _ e) | inr a ↦ rw a ]

  -- an arrow that is not cut stays in its tile
  cut_stays : (p : ℕ) → cut_at p ≡ false → to p < N → tile_of I J hs ws (to p) ≡ tile_of I J hs ws p
  cut_stays p c l =
      let s : next p ≡ to p = dest_step (sheet_rows I hs) (sheet_cols J ws) sheet p refl l in
      elim (test (eqb (tile_of I J hs ws (next p)) (tile_of I J hs ws p))) [
        | inl e ↦ ap (tile_of I J hs ws) (sym s) ∙ eqb-true _ _ e
        | inr e ↦ absurd (true≢false (sym (cut_over p (from_land (sheet_rows I hs) (sheet_cols J ws) sheet p refl l) (eqb-false _ _ e)) ∙ c))
      ]

  module _ (tiles : ℕ → List ℕ) (cut : Cut I J hs ws sheet tiles) where
    -- where x's water goes in tile t
    abbrev ton : ℕ → ℕ → ℕ
    ton t = dest_of (height_of J hs t) (width_of J ws t) (tiles t)

    pub same_land : (t x : ℕ) → t < I * J → x < cells_in J hs ws t → land_at (tiles t) x ≡ land_at sheet (sheet_place I J hs ws t x)
    unfolding land_at
    same_land t x lt lx = ap is_arrow (cut.codes t x lt lx)

    module _ (t x : ℕ) (lt : t < I * J) (lx : x < cells_in J hs ws t) where
      -- x's place on the sheet
      abbrev p : ℕ
      p = sheet_place I J hs ws t x

      -- the place that x's arrow steps onto in the tile
      abbrev here : ℕ
      here = step_from (height_of J hs t) (width_of J ws t) (step_of (code_at (tiles t) x)) x

      same_code : code_at (tiles t) x ≡ code_at sheet p
      same_code = cut.codes t x lt lx

      -- a step that stays in the tile is the same on the sheet
      stays : land_at sheet p ≡ true → here < cells_in J hs ws t → next p ≡ sheet_place I J hs ws t here
      unfolding land_at
      stays a l = rw same_code (step_stays I J hs ws (code_at sheet p) a t x lt lx (rw (← same_code) l))

      stays_tile : land_at sheet p ≡ true → here < cells_in J hs ws t → cut_at p ≡ false
      stays_tile a l =
          let e = stays a l in
          cut_in p (omega (arith, e, tile_below I J hs ws t here lt l)) (ap (tile_of I J hs ws) e ∙ tile_is I J hs ws t here lt l ∙ sym (tile_is I J hs ws t x lt lx))

      -- a step that leaves the tile leads to another tile, or off the sheet
      leaves_tile : land_at sheet p ≡ true → cells_in J hs ws t ≤ here → cut_at p ≡ true
      unfolding land_at
      leaves_tile a h =
          elim (below (next p) N) [
            | inl l ↦
                let (s, y, ls, ly, d, b, e) = step_leaves I J hs ws (code_at sheet p) a t x lt lx (rw (← same_code) h) l in
                cut_over p a (λ k. d (sym (tile_is I J hs ws t x lt lx) ∙ sym k ∙ ap (tile_of I J hs ws) e ∙ tile_is I J hs ws s y ls ly))
            | inr l ↦ cut_off p a l
          ]

      -- on the sheet an arrow is cut exactly where it crosses its tile's edge
      pub cut_is : cut_at p ≡ crosses (height_of J hs t) (width_of J ws t) (tiles t) x
      unfolding crosses
      cut_is =
          elim (test (land_at sheet p)) [
            | inl a ↦ elim (below here (cells_in J hs ws t)) [
              | inl l ↦ stays_tile a l ∙ sym (steps_in (height_of J hs t) (width_of J ws t) (tiles t) x l)
              | inr l ↦ leaves_tile a l ∙ sym (steps_out (height_of J hs t) (width_of J ws t) (tiles t) x (same_land t x lt lx ∙ a) l)
            ]
            | inr a ↦ cut_absent p a ∙ sym (rw (same_land t x lt lx ∙ a))
          ]

      -- an arrow in the tile is the sheet's
      arrow_at : ton t x < cells_in J hs ws t → kept N to cut_at p ≡ sheet_place I J hs ws t (ton t x)
      arrow_at h =
          let a : land_at sheet p ≡ true = sym (same_land t x lt lx) ∙ from_land (height_of J hs t) (width_of J ws t) (tiles t) x refl h in
          let s : here ≡ ton t x = dest_step (height_of J hs t) (width_of J ws t) (tiles t) x refl h in
          let l : here < cells_in J hs ws t = omega arith in
          let e : next p ≡ sheet_place I J hs ws t (ton t x) = stays a l ∙ ap (sheet_place I J hs ws t) s in
          kept_whole N to cut_at p (stays_tile a l)
          ∙ dest_land (sheet_rows I hs) (sheet_cols J ws) sheet p a e (sym (same_land t (ton t x) lt h) ∙ to_land (height_of J hs t) (width_of J ws t) (tiles t) x refl h)

      -- and where there is none in the tile, there is none on the sheet that is not cut
      ends_at : cells_in J hs ws t ≤ ton t x → N ≤ kept N to cut_at p
      ends_at h =
          elim (test (cut_at p)) [
            | inl c ↦ omega (arith, kept_cut N to cut_at p c)
            | inr c ↦ elim (below (to p) N) [
              | inl l ↦
                  let a : land_at sheet p ≡ true = from_land (sheet_rows I hs) (sheet_cols J ws) sheet p refl l in
                  elim (below here (cells_in J hs ws t)) [
                    | inl k ↦
                        let e : to p ≡ sheet_place I J hs ws t here = sym (dest_step (sheet_rows I hs) (sheet_cols J ws) sheet p refl l) ∙ stays a k in
                        let b : land_at sheet (sheet_place I J hs ws t here) ≡ true = ap (land_at sheet) (sym e) ∙ to_land (sheet_rows I hs) (sheet_cols J ws) sheet p refl l in
                        absurd (omega (arith, dest_land (height_of J hs t) (width_of J ws t) (tiles t) x (same_land t x lt lx ∙ a) refl (same_land t here lt k ∙ b)))
                    | inr k ↦ absurd (true≢false (sym (leaves_tile a k) ∙ c))
                  ]
              | inr l ↦ omega (arith, kept_whole N to cut_at p c)
            ]
          ]

    -- a tile is a part of the cut net
    pub tile_part : (t : ℕ) → t < I * J → Part (cells_in J hs ws t) N (ton t) (kept N to cut_at) (sheet_place I J hs ws t)
    tile_part t lt = record {
      places = tile_places I J hs ws t lt;
      arrow = λ x lx. arrow_at t x lt lx;
      ends = λ x lx. ends_at t x lt lx;
      before = λ q x lq lx e.
          let l : kept N to cut_at q < N = omega (arith, tile_below I J hs ws t x lt lx) in
          let o : to q ≡ sheet_place I J hs ws t x = sym (kept_one N to cut_at q l) ∙ e in
          let lo : to q < N = omega (arith, tile_below I J hs ws t x lt lx) in
          let c : cut_at q ≡ false = elim (test (cut_at q)) [ inl c ↦ absurd (omega (arith, kept_cut N to cut_at q c)) | inr c ↦ c ] in
          let (u, y, lu, ly, ey) = tile_cover I J hs ws q lq in
          let s : u ≡ t = sym (tile_is I J hs ws u y lu ly) ∙ ap (tile_of I J hs ws) ey ∙ sym (cut_stays q c lo) ∙ ap (tile_of I J hs ws) o ∙ tile_is I J hs ws t x lt lx in
          (y, rw (← s) ly, rw (← s) ey);
    }

    -- each exit is a border cell
    pub exit_border : (e : ℕ) → e < N → cut_at e ≡ true → (g : ℕ) × (g < all_borders I J hs ws) × (border_sheet_place I J hs ws g ≡ e)
    exit_border e l c =
        let (t, x, lt, lx, ex) = tile_cover I J hs ws e l in
        let x_crosses : crosses (height_of J hs t) (width_of J ws t) (tiles t) x ≡ true = sym (cut_is t x lt lx) ∙ ap cut_at ex ∙ c in
        let edge = crosses_border (height_of J hs t) (width_of J ws t) (tiles t) x x_crosses lx in
        (number_in_mosaic J hs ws t x, of_below I J hs ws t x lt lx edge, of_at I J hs ws t x lt lx edge ∙ ex)
