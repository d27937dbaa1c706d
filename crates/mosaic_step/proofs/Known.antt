-- What is known of the well-formed records of a mosaic: their sides, where they end, how many border cells they have, and what an exit's code is.
-- Assumes nothing.
use mathlib.Core.Bool.{true}
use mathlib.Core.List.{List}
use mathlib.Core.Path.{◌≡◌, refl}
use Prim.Native.Nat.{ℕ, zero, suc, ◌+◌, ◌*◌, ◌≤◌, ◌<◌}
use native.Mathlib.Omega.{arith}
use Rattle.flow.specs.Net.{sum}
use Rattle.flow.proofs.Sum.{sum_suc}
use Rattle.sheet.specs.Compass.{is_arrow, step_of}
use Rattle.sheet.specs.Shape.{TileShape}
use Rattle.sheet.specs.Sheet.{step_from}
use Rattle.tile.specs.Border.{border_place}
use Rattle.tile.proofs.Cells.{cells_most}
use Rattle.mosaic.specs.Layout.{height_of, width_of, borders_in, borders_before}
use Rattle.mosaic.proofs.Pieces.{sum_most}
use Rattle.mosaic_read.specs.Records.{start_of, rows_of, cols_of, borders_of, heights, widths, count_in, way_in, code_in, Leads}
use Rattle.mosaic_read.specs.Said.{said_count, said_way, said_code}
use Rattle.mosaic_read.proofs.Said as R
use Rattle.mosaic_read.proofs.Shapes.{rows_height, cols_width, borders_in_lem, read_fits}
use Rattle.mosaic_read.proofs.Starts.{start_none, start_next}
use Rattle.mosaic_step.specs.Table.{WellFormed}

module _ {I J : ℕ} {bytes : List ℕ} (w : WellFormed I J bytes) where
  -- ---- tile t

  module _ (t : ℕ) (l : t < I * J) where
    pub tile_shape : TileShape (rows_of bytes t) (cols_of bytes t)
    tile_shape = (w.records t l).sides.shape

    pub height_is : rows_of bytes t ≡ height_of J (heights bytes J) t
    height_is = rows_height (w.records t l)

    pub width_is : cols_of bytes t ≡ width_of J (widths bytes) t
    width_is = cols_width (w.records t l)

    pub borders_are : borders_of bytes t ≡ borders_in J (heights bytes J) (widths bytes) t
    borders_are = borders_in_lem (w.records t l)

    pub borders_most : borders_of bytes t ≤ 1020
    unfolding borders_of
    borders_most = cells_most (rows_of bytes t) (cols_of bytes t) tile_shape

    -- the number of the next tile's first border cell
    pub before_next : borders_before J (heights bytes J) (widths bytes) (suc t) ≡ borders_before J (heights bytes J) (widths bytes) t + borders_of bytes t
    before_next = omega (arith, sum_suc t (borders_in J (heights bytes J) (widths bytes)), borders_are)

    -- ---- its border cell b, which the mosaic's numbering names too

    module _ (b : ℕ) (lb : b < borders_of bytes t) where
      lb_in : b < borders_in J (heights bytes J) (widths bytes) t
      lb_in = omega (arith, borders_are)

      pub said_count_lem : said_count bytes I J (borders_before J (heights bytes J) (widths bytes) t + b) ≡ count_in bytes t b
      said_count_lem = R.said_count_lem bytes I J t b l lb_in

      pub said_way_lem : said_way bytes I J (borders_before J (heights bytes J) (widths bytes) t + b) ≡ way_in bytes t b
      said_way_lem = R.said_way_lem bytes I J t b l lb_in

      pub said_code_lem : said_code bytes I J (borders_before J (heights bytes J) (widths bytes) t + b) ≡ code_in bytes t b
      said_code_lem = R.said_code_lem bytes I J t b l lb_in

    -- the way of an exit, which is the exit itself, leads out of its tile
    module _ (b : ℕ) (border : b < borders_of bytes t) (itself : way_in bytes t b ≡ b) where
      exit_leads : Leads bytes (start_of bytes t) (rows_of bytes t) (cols_of bytes t) (borders_of bytes t) b
      exit_leads = R.leads_out (w.records t l) b border (λ m. omega (arith, m, itself, border, borders_most))

      pub exit_arrow : is_arrow (code_in bytes t b) ≡ true
      exit_arrow = exit_leads.arrow

      pub exit_outside : rows_of bytes t * cols_of bytes t ≤ step_from (rows_of bytes t) (cols_of bytes t) (step_of (code_in bytes t b)) (border_place (rows_of bytes t) (cols_of bytes t) b)
      exit_outside = rw itself at exit_leads.outside

  -- ---- the sides of tile rows and tile columns

  pub height_some : (i : ℕ) → i < I → (1 ≤ heights bytes J i) × (heights bytes J i ≤ 256)
  height_some = (read_fits bytes I J w.shape w.records).heights

  pub width_some : (j : ℕ) → j < J → (1 ≤ widths bytes j) × (widths bytes j ≤ 256)
  width_some = (read_fits bytes I J w.shape w.records).widths

  pub before_none : borders_before J (heights bytes J) (widths bytes) 0 ≡ 0
  unfolding sum
  before_none = refl

  -- ---- bounds

  pub start_most : (t : ℕ) → t ≤ I * J → start_of bytes t ≤ 7157 * t
  start_most zero l = omega (arith, start_none bytes)
  start_most (suc t) l = omega (arith, start_next bytes t, start_most t (omega arith), borders_most t (omega arith))

  pub before_most : (t : ℕ) → t ≤ I * J → borders_before J (heights bytes J) (widths bytes) t ≤ 1020 * t
  before_most t l = omega (arith, sum_most t 1020 (borders_in J (heights bytes J) (widths bytes)) (λ q lq. omega (arith, borders_are q (omega arith), borders_most q (omega arith))))
