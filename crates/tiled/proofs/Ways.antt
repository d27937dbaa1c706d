-- What a tile's own record says of its border cells is well formed: the absent mark exactly where the count is 0, and ways that lead outside.
-- Assumes nothing.
use mathlib.Core.Bool.{true}
use mathlib.Core.List.{List}
use mathlib.Core.Logic.{inl, inr}
use mathlib.Core.Path.{◌≡◌, sym, ap, ◌∙◌}
use Prim.Native.Nat.{ℕ, ◌*◌, ◌<◌, ◌≤◌}
use native.Mathlib.Omega.{arith}
use lib.ListN.{length}
use Rattle.flow.proofs.Bound.{counts_bound}
use Rattle.flow.proofs.Sum.{test, on_true}
use Rattle.sheet.specs.Compass.{is_arrow}
use Rattle.sheet.specs.Shape.{TileShape}
use Rattle.sheet.specs.Sheet.{land_at, dest_of, unit, count_at, SheetCounts, SheetNoLoop}
use Rattle.sheet.proofs.Dest.{dest_beyond}
use Rattle.sheet.proofs.Gather.{number_le}
use Rattle.sheet.proofs.Passes.{counts_no_loop, absent_zero}
use Rattle.tile.specs.Border.{border_cells, border_number, border_place}
use Rattle.tile.specs.Way.{Way, crosses, last_cell, over, way_at}
use Rattle.tile.proofs.Borders.{place_in_lem}
use Rattle.tile.proofs.Cells.{cells_most}
use Rattle.tile.proofs.Ways.{crosses_land, crosses_step, way_absent, way_inside, way_over, way_number, way_place, way_same}
use Rattle.mosaic_read.specs.Records.{cell_count, cell_way, cell_code, WayOk, Leads}

module _ (rows cols : ℕ) (g counts : List ℕ) (shape : TileShape rows cols) (long : length g ≡ rows * cols) (eq : SheetCounts rows cols g counts) where
  abbrev B : ℕ
  B = border_cells rows cols

  free : SheetNoLoop rows cols g
  free = counts_no_loop rows cols g long counts eq

  -- a count is at most the number of cells
  pub count_most : (p : ℕ) → p < rows * cols → count_at counts p ≤ rows * cols
  count_most p l = omega (arith, counts_bound (rows * cols) (dest_of rows cols g) (dest_beyond rows cols g long) free (unit g) (count_at counts) eq p l, number_le (rows * cols) (land_at g))

  -- a land cell counts itself
  land_some : (p : ℕ) → p < rows * cols → land_at g p ≡ true → 1 ≤ count_at counts p
  land_some p l e = omega (arith, eq p l, on_true 1 e)

  -- bytes that say the counts and ways of the border cells
  module _ (bytes : List ℕ) (o : ℕ)
      (says_count : (b : ℕ) → b < B → cell_count bytes o b ≡ count_at counts (border_place rows cols b))
      (says_way : (b : ℕ) → b < B → cell_way bytes o B b ≡ (way_at rows cols g (border_place rows cols b)).number)
      (says_code : (b : ℕ) → b < B → cell_code bytes o B b ≡ (way_at rows cols g (border_place rows cols b)).code) where
    abbrev at : ℕ → ℕ
    at b = border_place rows cols b

    abbrev end : ℕ → ℕ
    end b = last_cell rows cols g (at b)

    number_is : (b : ℕ) → b < B → {w : Way} → way_at rows cols g (at b) ≡ w → cell_way bytes o B b ≡ w.number
    number_is b l e = says_way b l ∙ ap (λ (w : Way). w.number) e

    code_is : (b : ℕ) → b < B → {w : Way} → way_at rows cols g (at b) ≡ w → cell_code bytes o B b ≡ w.code
    code_is b l e = says_code b l ∙ ap (λ (w : Way). w.code) e

    arrow_is : (b : ℕ) → b < B → way_at rows cols g (at b) ≡ over rows cols g (end b) → land_at g (end b) ≡ true → is_arrow (cell_code bytes o B b) ≡ true
    unfolding land_at
    arrow_is b l w land = ap is_arrow (code_is b l w) ∙ land

    -- a way over the edge
    leads_over : (b : ℕ) → b < B → land_at g (at b) ≡ true → crosses rows cols g (end b) ≡ true → Leads bytes o rows cols B b
    leads_over b l land x =
        let inside = place_in_lem rows cols b l in
        let w = way_over rows cols g (at b) land x in
        let number : cell_way bytes o B b ≡ border_number rows cols (end b) = number_is b l w in
        let below = way_number rows cols g long free (at b) inside x in
        let place : border_place rows cols (cell_way bytes o B b) ≡ end b = ap (border_place rows cols) number ∙ way_place rows cols g long free (at b) inside x in
        let same : way_at rows cols g (border_place rows cols (cell_way bytes o B b)) ≡ way_at rows cols g (at b) = ap (way_at rows cols g) place ∙ way_same rows cols g long free (at b) inside x land in
        let l' : cell_way bytes o B b < B = omega arith in
        record {
          border = l';
          same_way = says_way (cell_way bytes o B b) l' ∙ ap (λ (w : Way). w.number) same ∙ sym (says_way b l);
          same_code = says_code (cell_way bytes o B b) l' ∙ ap (λ (w : Way). w.code) same ∙ sym (says_code b l);
          arrow = arrow_is b l w (crosses_land rows cols g (end b) x);
          outside = rw (place, code_is b l w) (crosses_step rows cols g (end b) x);
        }

    pub way_ok : (b : ℕ) → b < B → WayOk bytes o rows cols B b
    way_ok b l =
        let inside = place_in_lem rows cols b l in
        elim (test (land_at g (at b))) [
          | inr absent ↦
              let w = way_absent rows cols g (at b) absent in
              let mark : (cell_way bytes o B b ≡ 65535) × (cell_code bytes o B b ≡ 255) = (number_is b l w, code_is b l w) in
              record {
                absent_zero = λ m. says_count b l ∙ absent_zero rows cols g long counts eq (at b) inside absent;
                zero_absent = λ z. mark;
                leads = λ no_mark not_inside. absurd (no_mark mark);
              }
          | inl land ↦ elim (test (crosses rows cols g (end b))) [
            | inl x ↦
                let number : cell_way bytes o B b ≡ border_number rows cols (end b) = number_is b l (way_over rows cols g (at b) land x) in
                record {
                  absent_zero = λ m. absurd (omega (arith, m.0, way_number rows cols g long free (at b) inside x, cells_most rows cols shape));
                  zero_absent = λ z. absurd (omega (arith, says_count b l, land_some (at b) inside land));
                  leads = λ no_mark not_inside. leads_over b l land x;
                }
            | inr x ↦
                let w = way_inside rows cols g (at b) land x in
                let code : cell_code bytes o B b ≡ 0 = code_is b l w in
                record {
                  absent_zero = λ m. absurd (omega (arith, m.1));
                  zero_absent = λ z. absurd (omega (arith, says_count b l, land_some (at b) inside land));
                  leads = λ no_mark not_inside. absurd (not_inside (number_is b l w, code));
                }
          ]
        ]
