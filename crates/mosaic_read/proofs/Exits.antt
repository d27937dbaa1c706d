-- What well-formed records say, in the words of crate mosaic (specs/Join): which border cells are land, that each way leads to an exit of the same tile,
-- that an exit's arrow steps outside its tile, and that a border cell it steps onto stands in another tile.
-- Assumes nothing.
use mathlib.Core.Bool.{true}
use mathlib.Core.List.{List}
use mathlib.Core.Path.{◌≡◌, sym, ap, ap₂, ◌∙◌}
use Prim.Native.Nat.{ℕ, ◌+◌, ◌*◌, ◌≤◌, ◌<◌}
use native.Mathlib.Omega.{arith}
use borrow.Author.Tests.{eqb-true, ne_eqb}
use Rattle.sheet.specs.Compass.{is_arrow, step_of}
use Rattle.sheet.specs.Sheet.{step_from}
use Rattle.tile.proofs.Cells.{cells_most}
use Rattle.mosaic.specs.Layout.{height_of, width_of, cells_in, borders_in, borders_before, all_borders, border_tile, number_in_tile, place_in}
use Rattle.mosaic.specs.Join.{exit_at, leads_to, onto}
use Rattle.mosaic.proofs.Borders.{border_below, border_tile_lem, border_in, tile_in, number_in_lem, cell_in}
use Rattle.mosaic.proofs.Leaving.{stays}
use Rattle.mosaic.proofs.Onto.{onto_at}
use Rattle.mosaic_read.specs.Records.{start_of, rows_of, cols_of, borders_of, way_in, heights, widths, Leads}
use Rattle.mosaic_read.specs.Said.{said_way, said_code}
use Rattle.mosaic_read.proofs.AllRecords.{AllOk}
use Rattle.mosaic_read.proofs.Said as S
use Rattle.mosaic_read.proofs.Shapes.{rows_height, cols_width, borders_in_lem}

module _ (bytes : List ℕ) (I J : ℕ) (ok : AllOk bytes J (I * J)) (g : ℕ) (l : g < all_borders I J (heights bytes J) (widths bytes)) where
  -- its tile, and its number there
  abbrev t : ℕ
  t = border_tile I J (heights bytes J) (widths bytes) g

  abbrev b : ℕ
  b = number_in_tile I J (heights bytes J) (widths bytes) g

  lt : t < I * J
  lt = tile_in I J (heights bytes J) (widths bytes) g l

  lb : b < borders_of bytes t
  lb = rw (borders_in_lem (ok t lt)) (number_in_lem I J (heights bytes J) (widths bytes) g l)

  few : borders_of bytes t ≤ 1020
  unfolding borders_of
  few = cells_most (rows_of bytes t) (cols_of bytes t) (ok t lt).sides.shape

  -- its way, where it has one
  module _ (n : said_way bytes I J g ≡ 65535 → ⊥) where
    leads : Leads bytes (start_of bytes t) (rows_of bytes t) (cols_of bytes t) (borders_of bytes t) b
    unfolding said_way
    leads = S.leads_out (ok t lt) b lb n

    -- the exit's number in its tile
    k_in : way_in bytes t b < borders_in J (heights bytes J) (widths bytes) t
    k_in = rw (← (borders_in_lem (ok t lt))) leads.border

    abbrev e : ℕ
    e = leads_to I J (heights bytes J) (widths bytes) (said_way bytes I J) g

    e_is : e ≡ borders_before J (heights bytes J) (widths bytes) t + way_in bytes t b
    unfolding leads_to said_way
    e_is = rw (ne_eqb (way_in bytes t b) 65535 n)

    pub leads_below : e < all_borders I J (heights bytes J) (widths bytes)
    leads_below = rw e_is (border_below I J (heights bytes J) (widths bytes) t (way_in bytes t b) lt k_in)

    pub leads_tile : border_tile I J (heights bytes J) (widths bytes) e ≡ t
    leads_tile = ap (border_tile I J (heights bytes J) (widths bytes)) e_is ∙ border_tile_lem I J (heights bytes J) (widths bytes) t (way_in bytes t b) lt k_in

    leads_number : number_in_tile I J (heights bytes J) (widths bytes) e ≡ way_in bytes t b
    leads_number = ap (number_in_tile I J (heights bytes J) (widths bytes)) e_is ∙ border_in I J (heights bytes J) (widths bytes) t (way_in bytes t b) lt k_in

    pub leads_way : said_way bytes I J e ≡ said_way bytes I J g
    unfolding said_way
    leads_way = ap₂ (λ (u a : ℕ). way_in bytes u a) leads_tile leads_number ∙ leads.same_way

  -- the border cell that it steps onto
  abbrev onto_by : ℕ
  onto_by = onto I J (heights bytes J) (widths bytes) (said_code bytes I J) g

  -- an exit: it has a way, and so it is land
  module _ (x : exit_at I J (heights bytes J) (widths bytes) (said_way bytes I J) g ≡ true) where
    exit_itself : said_way bytes I J g ≡ b
    unfolding exit_at
    exit_itself = eqb-true _ _ x

    pub exit_no_mark : said_way bytes I J g ≡ 65535 → ⊥
    exit_no_mark m = omega (arith, exit_itself, lb, few)

    pub exit_arrow : is_arrow (said_code bytes I J g) ≡ true
    unfolding said_code
    exit_arrow = (leads exit_no_mark).arrow

    -- and its arrow steps outside its tile
    pub exit_outside : cells_in J (heights bytes J) (widths bytes) t
        ≤ step_from (height_of J (heights bytes J) t) (width_of J (widths bytes) t) (step_of (said_code bytes I J g)) (place_in J (heights bytes J) (widths bytes) t b)
    unfolding said_code said_way
    exit_outside =
        let itself : way_in bytes t b ≡ b = exit_itself in
        rw (← (rows_height (ok t lt)), ← (cols_width (ok t lt))) (rw itself at (leads exit_no_mark).outside)

    -- a border cell that it steps onto stands in another tile
    pub onto_another : onto_by < all_borders I J (heights bytes J) (widths bytes) → border_tile I J (heights bytes J) (widths bytes) onto_by ≡ t → ⊥
    onto_another lh same =
        let x_in = cell_in I J (heights bytes J) (widths bytes) g l in
        let y_in = rw same at (cell_in I J (heights bytes J) (widths bytes) onto_by lh) in
        let steps = rw same at (sym (onto_at I J (heights bytes J) (widths bytes) (said_code bytes I J) g lh)) in
        omega (arith, exit_outside, stays I J (heights bytes J) (widths bytes) (said_code bytes I J g) exit_arrow t _ _ lt x_in y_in steps)
