-- The join's net, by true records, is the net of the exits of the sheet.
-- Assumes nothing.
use mathlib.Core.Path.{◌≡◌, refl, sym, ap, ap₂, ◌∙◌}
use mathlib.Core.Bool.{Bool, true, false, cond, ◌&&◌}
use mathlib.Core.List.{List}
use mathlib.Core.Logic.{inl, inr}
use Prim.Native.Nat.{ℕ, ◌*◌, ◌≤◌, ◌<◌}
use native.Mathlib.Omega.{arith}
use lib.Dec.{eqb, ltb}
use borrow.Author.Tests.{eq-eqb, ne_eqb, lt-ltb, le-ltb}
use Rattle.flow.specs.Net.{on, sum}
use Rattle.flow.proofs.Sum.{test, same, sum_ext}
use Rattle.flow.proofs.Walk.{below}
use Rattle.flow.proofs.Joined as F
use Rattle.sheet.specs.Compass.{step_of}
use Rattle.sheet.specs.Sheet.{code_at, land_at, step_from, dest_of}
use Rattle.sheet.proofs.Dest.{dest_land, dest_step, to_land}
use Rattle.tile.specs.Border.{on_border}
use Rattle.tile.specs.Way.{crosses}
use Rattle.tile.proofs.Ways.{crosses_step}
use Rattle.mosaic.specs.Layout.{sheet_rows, sheet_cols, height_of, width_of, cells_in, sheet_place, all_borders, border_tile, number_in_tile, place_in, border_sheet_place, Cut, Fits, number_in_mosaic}
use Rattle.mosaic.specs.Join.{is_land, steps_onto, onto, leads_to, feeds, comes_in, TilesFree, Tells}
use Rattle.mosaic.proofs.Borders.{tile_in, cell_in, border_places, of_below, of_at}
use Rattle.mosaic.proofs.Onto.{onto_at, onto_is}
use Rattle.mosaic.proofs.Neighbours.{step_leaves}
use Rattle.mosaic.proofs.Cuts.{cut_at, cut_land, cut_is, exit_border}
use Rattle.mosaic.proofs.Totals.{absent_leads}
use Rattle.mosaic.proofs.Joins.{exit_is, exit_code, land_is, way_exit, way_ends}

-- the border cell that exit g steps onto where that is land, or none
unfoldable pub lands_on : (I J : ℕ) (hs ws way code : ℕ → ℕ) (g : ℕ) → ℕ
lands_on I J hs ws way code g =
    cond (ltb (onto I J hs ws code g) (all_borders I J hs ws) && is_land way code (onto I J hs ws code g)) (onto I J hs ws code g) (all_borders I J hs ws)

module _ (I J : ℕ) (hs ws way code : ℕ → ℕ) (g : ℕ) where
  lands_on_lem : onto I J hs ws code g < all_borders I J hs ws → is_land way code (onto I J hs ws code g) ≡ true → lands_on I J hs ws way code g ≡ onto I J hs ws code g
  unfolding lands_on
  lands_on_lem l a = rw (lt-ltb (onto I J hs ws code g) (all_borders I J hs ws) l, a)

  lands_off : all_borders I J hs ws ≤ onto I J hs ws code g → lands_on I J hs ws way code g ≡ all_borders I J hs ws
  unfolding lands_on
  lands_off l = rw (le-ltb (onto I J hs ws code g) (all_borders I J hs ws) l)

  lands_absent : onto I J hs ws code g < all_borders I J hs ws → is_land way code (onto I J hs ws code g) ≡ false → lands_on I J hs ws way code g ≡ all_borders I J hs ws
  unfolding lands_on
  lands_absent l a = rw (lt-ltb (onto I J hs ws code g) (all_borders I J hs ws) l, a)

  lands_says : lands_on I J hs ws way code g < all_borders I J hs ws
      → (onto I J hs ws code g < all_borders I J hs ws) × (is_land way code (onto I J hs ws code g) ≡ true) × (lands_on I J hs ws way code g ≡ onto I J hs ws code g)
  lands_says l =
      elim (below (onto I J hs ws code g) (all_borders I J hs ws)) [
        | inl b ↦ elim (test (is_land way code (onto I J hs ws code g))) [ inl a ↦ (b, a, lands_on_lem b a) | inr a ↦ absurd (omega (arith, lands_absent b a)) ]
        | inr b ↦ absurd (omega (arith, lands_off b))
      ]

module _ (I J : ℕ) (hs ws : ℕ → ℕ) (fits : Fits I J hs ws) (sheet : List ℕ) (tiles : ℕ → List ℕ) (cut : Cut I J hs ws sheet tiles)
    (free : TilesFree I J hs ws tiles)
    (counts : ℕ → ℕ → ℕ) (count way code : ℕ → ℕ) (tells : Tells I J hs ws tiles counts count way code) where
  -- the cells and the net of the sheet, and which of its arrows are cut; the border cells
  abbrev N : ℕ
  N = sheet_rows I hs * sheet_cols J ws

  abbrev to : ℕ → ℕ
  to = dest_of (sheet_rows I hs) (sheet_cols J ws) sheet

  abbrev C : ℕ → Bool
  C = cut_at I J hs ws sheet

  abbrev M : ℕ
  M = all_borders I J hs ws

  abbrev at : ℕ → ℕ
  at = border_sheet_place I J hs ws

  -- an exit's code steps where the sheet's arrow steps
  steps_same : (g : ℕ) → g < M → C (at g) ≡ true → steps_onto I J hs ws code g ≡ step_from (sheet_rows I hs) (sheet_cols J ws) (step_of (code_at sheet (at g))) (at g)
  steps_same g l c =
      ap (λ (x : ℕ). step_from (sheet_rows I hs) (sheet_cols J ws) (step_of x) (at g)) (exit_code I J hs ws fits sheet tiles cut free counts count way code tells g l c)

  exit_crosses : (g : ℕ) → g < M → C (at g) ≡ true → crosses (height_of J hs (border_tile I J hs ws g)) (width_of J ws (border_tile I J hs ws g)) (tiles (border_tile I J hs ws g)) (place_in J hs ws (border_tile I J hs ws g) (number_in_tile I J hs ws g)) ≡ true
  exit_crosses g l c =
      sym (cut_is I J hs ws sheet tiles cut (border_tile I J hs ws g) (place_in J hs ws (border_tile I J hs ws g) (number_in_tile I J hs ws g)) (tile_in I J hs ws g l) (cell_in I J hs ws g l)) ∙ c

  -- where an exit's arrow ends on land of the mosaic
  step_on : (g : ℕ) → g < M → C (at g) ≡ true → lands_on I J hs ws way code g < M → to (at g) ≡ at (lands_on I J hs ws way code g)
  step_on g l c h =
      let (b, a, e) = lands_says I J hs ws way code g h in
      let k : step_from (sheet_rows I hs) (sheet_cols J ws) (step_of (code_at sheet (at g))) (at g) ≡ at (onto I J hs ws code g) = sym (steps_same g l c) ∙ sym (onto_at I J hs ws code g b) in
      dest_land (sheet_rows I hs) (sheet_cols J ws) sheet (at g) (cut_land I J hs ws sheet (at g) c) k
      (sym (land_is I J hs ws fits sheet tiles cut free counts count way code tells (onto I J hs ws code g) b) ∙ a)
      ∙ ap at (sym e)

  -- and where it ends on none
  step_off : (g : ℕ) → g < M → C (at g) ≡ true → M ≤ lands_on I J hs ws way code g → N ≤ to (at g)
  unfolding land_at
  step_off g l c h =
      elim (below (to (at g)) N) [
        | inl b ↦
            let k : step_from (sheet_rows I hs) (sheet_cols J ws) (step_of (code_at sheet (at g))) (at g) ≡ to (at g) = dest_step (sheet_rows I hs) (sheet_cols J ws) sheet (at g) refl b in
            let (s, y, ls, ly, d, edge, e) = leads g l c (omega arith) in
            let o : onto I J hs ws code g ≡ number_in_mosaic J hs ws s y =
            onto_is I J hs ws code g (number_in_mosaic J hs ws s y) (of_below I J hs ws s y ls ly edge) (of_at I J hs ws s y ls ly edge ∙ sym e ∙ sym (steps_same g l c)) in
            let lo : onto I J hs ws code g < M = omega (arith, of_below I J hs ws s y ls ly edge) in
            let a : is_land way code (onto I J hs ws code g) ≡ true =
            land_is I J hs ws fits sheet tiles cut free counts count way code tells (onto I J hs ws code g) lo
            ∙ ap (land_at sheet) (onto_at I J hs ws code g lo ∙ steps_same g l c ∙ k) ∙ to_land (sheet_rows I hs) (sheet_cols J ws) sheet (at g) refl b in
            absurd (omega (arith, lands_on_lem I J hs ws way code g lo a))
        | inr b ↦ b
      ]
    where
      leads : (g : ℕ) → g < M → C (at g) ≡ true → step_from (sheet_rows I hs) (sheet_cols J ws) (step_of (code_at sheet (at g))) (at g) < N
          → (s : ℕ) × (y : ℕ) × (s < I * J) × (y < cells_in J hs ws s) × (border_tile I J hs ws g ≡ s → ⊥) × (on_border (height_of J hs s) (width_of J ws s) y ≡ true)
          × (step_from (sheet_rows I hs) (sheet_cols J ws) (step_of (code_at sheet (at g))) (at g) ≡ sheet_place I J hs ws s y)
      leads g l c =
          let lt = tile_in I J hs ws g l in
          let lx = cell_in I J hs ws g l in
          step_leaves I J hs ws (code_at sheet (at g)) (cut_land I J hs ws sheet (at g) c) (border_tile I J hs ws g) (place_in J hs ws (border_tile I J hs ws g) (number_in_tile I J hs ws g)) lt lx
          (rw (← (cut.codes _ _ lt lx)) (crosses_step _ _ _ _ (exit_crosses g l c)))

  pub records : F.Records M N to C at (lands_on I J hs ws way code) (leads_to I J hs ws way)
  records = record {
    places = border_places I J hs ws;
    exits = exit_border I J hs ws sheet tiles cut;
    step_on = step_on;
    step_off = step_off;
    way_exit = way_exit I J hs ws fits sheet tiles cut free counts count way code tells;
    way_ends = way_ends I J hs ws fits sheet tiles cut free counts count way code tells;
  }

  -- what an exit feeds
  pub feeds_is : (g : ℕ) → feeds I J hs ws way code g ≡ F.feeds M (λ g. C (at g)) (lands_on I J hs ws way code) (leads_to I J hs ws way) g
  unfolding feeds F.feeds
  feeds_is g =
      elim (below g M) [
        | inl l ↦ rw (lt-ltb g M l, exit_is I J hs ws fits sheet tiles cut free counts count way code tells g l) (elim (test (C (at g))) [
          | inl c ↦ rw c (elim (below (onto I J hs ws code g) M) [
            | inl b ↦ elim (test (is_land way code (onto I J hs ws code g))) [
              | inl a ↦ rw (lands_on_lem I J hs ws way code g b a)
              | inr a ↦
                  rw (lands_absent I J hs ws way code g b a, le-ltb M M (omega arith), lt-ltb (onto I J hs ws code g) M b)
                  (absent_leads I J hs ws way code (onto I J hs ws code g) a)
            ]
            | inr b ↦ rw (lands_off I J hs ws way code g b, le-ltb M M (omega arith), le-ltb (onto I J hs ws code g) M b)
          ])
          | inr c ↦ rw c
        ])
        | inr l ↦ rw (le-ltb g M l)
      ]

  -- what comes in at border cell h
  pub comes_is : (T : ℕ → ℕ) (h : ℕ) → h < M → comes_in I J hs ws way code T h ≡ sum M (λ g. on (C (at g) && eqb (lands_on I J hs ws way code g) h) (T g))
  unfolding comes_in
  comes_is T h lh =
      sum_ext (λ g l. ap₂ (λ a b. on (a && b) (T g)) (exit_is I J hs ws fits sheet tiles cut free counts count way code tells g l) (same_cell g))
    where
      same_cell : (g : ℕ) → (eqb (onto I J hs ws code g) h && is_land way code h) ≡ eqb (lands_on I J hs ws way code g) h
      same_cell g =
          elim (same (onto I J hs ws code g) h) [
            | inl e ↦ elim (test (is_land way code h)) [
              | inl a ↦ rw (eq-eqb (onto I J hs ws code g) h e, a) (sym (eq-eqb (lands_on I J hs ws way code g) h (lands_on_lem I J hs ws way code g (omega arith) (ap (is_land way code) e ∙ a) ∙ e)))
              | inr a ↦ rw (eq-eqb (onto I J hs ws code g) h e, a) (sym (ne_eqb (lands_on I J hs ws way code g) h (λ k. omega (arith, lands_absent I J hs ws way code g (omega arith) (ap (is_land way code) e ∙ a)))))
            ]
            | inr d ↦ rw (ne_eqb (onto I J hs ws code g) h d) (sym (ne_eqb (lands_on I J hs ws way code g) h (λ k. let (b, a, e) = lands_says I J hs ws way code g (omega arith) in d (sym e ∙ k))))
          ]
