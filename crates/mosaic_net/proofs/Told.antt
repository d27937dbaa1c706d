-- What well-formed records tell of border cell b of tile t, which is border cell `first_of t + b` of the mosaic.
-- Assumes nothing.
use mathlib.Core.List.{List}
use mathlib.Core.Path.{◌≡◌, sym, ap, ◌∙◌}
use Prim.Native.Nat.{ℕ, suc, ◌+◌, ◌*◌, ◌<◌, ◌≤◌}
use native.Mathlib.Omega.{arith}
use native.Mathlib.Nat.{mul-le-mul}
use Rattle.flow.specs.Net.{sum}
use Rattle.flow.proofs.Bound.{on_le}
use Rattle.flow.proofs.Sum.{sum_ext}
use Rattle.mosaic.specs.Join.{exit_at, own}
use Rattle.mosaic.specs.Layout.{borders_in}
use Rattle.mosaic.proofs.Borders.{border_below, each_border}
use Rattle.mosaic.proofs.Pieces.{sum_most}
use Rattle.mosaic_read.specs.Records.{rows_of, cols_of, borders_of, count_in, way_in, heights, widths}
use Rattle.mosaic_read.specs.Said.{borders, said_count, said_way}
use Rattle.mosaic_step.specs.Table.{WellFormed}
use Rattle.mosaic_step.proofs.Known.{borders_are, before_next, said_count_lem}
use Rattle.mosaic_step.proofs.Known as K
use Rattle.mosaic_net.specs.Method.{own_by, first_of}

module _ (I J : ℕ) (bytes : List ℕ) (w : WellFormed I J bytes) where
  module _ (t : ℕ) (lt : t < I * J) where
    -- the next tile's first border cell
    pub first_next : first_of I J bytes (t + 1) ≡ first_of I J bytes t + borders_of bytes t
    first_next = let e : t + 1 ≡ suc t = omega arith in ap (first_of I J bytes) e ∙ before_next w t lt

    module _ (b : ℕ) (lb : b < borders_of bytes t) where
      -- its number in the mosaic
      pub cell_below : first_of I J bytes t + b < borders I J bytes
      cell_below = border_below I J (heights bytes J) (widths bytes) t b lt (omega (arith, borders_are w t lt))

      -- a way that is no mark is a border number of the tile
      pub way_below : (way_in bytes t b ≡ 65535 → ⊥) → way_in bytes t b < borders_of bytes t
      way_below d = (((w.records t lt).ways.ways b lb).leads (λ m. d m.0) (λ m. d m.0)).border

      -- no count exceeds the cells of the greatest tile
      pub count_most : count_in bytes t b ≤ 65536
      count_most =
          let s = (w.records t lt).sides.shape in
          let c = (w.records t lt).counts.counts b lb in
          let p : rows_of bytes t * cols_of bytes t ≤ 256 * 256 = mul-le-mul s.rows_most s.cols_most in
          omega arith

  -- a mosaic's border cells are few
  pub borders_most : borders I J bytes ≤ 65280
  borders_most =
      let m : borders I J bytes ≤ I * J * 1020 = sum_most (I * J) 1020 (borders_in J (heights bytes J) (widths bytes)) (λ t l. omega (arith, borders_are w t l, K.borders_most w t l)) in
      omega (arith, w.shape.tiles_most)

  -- as reading numbers them
  pub borders_read : borders I J bytes ≡ sum (I * J) (borders_of bytes)
  borders_read = sum_ext (λ t l. sym (borders_are w t l))

  -- what holds of border cell b of each tile t holds of each border cell
  pub each_cell : (P : ℕ → Type 0) → ((t b : ℕ) → t < I * J → b < borders_of bytes t → P (first_of I J bytes t + b)) → (g : ℕ) → g < borders I J bytes → P g
  each_cell P h = each_border I J (heights bytes J) (widths bytes) P (λ t b lt lb. h t b lt (omega (arith, borders_are w t lt)))

  -- the counts of all exits together fit 32 bits
  own_most : (g : ℕ) → g < borders I J bytes → own_by I J bytes g ≤ 65536
  unfolding own
  own_most = each_cell (λ g. own_by I J bytes g ≤ 65536) (λ t b lt lb. omega (
    arith,
    on_le (exit_at I J (heights bytes J) (widths bytes) (said_way bytes I J) (first_of I J bytes t + b)) (said_count bytes I J (first_of I J bytes t + b)),
    said_count_lem w t lt b lb,
    count_most t lt b lb,
  ))

  pub own_fits : sum (borders I J bytes) (own_by I J bytes) < 4294967296
  own_fits = omega (arith, sum_most (borders I J bytes) 65536 (own_by I J bytes) own_most, borders_most)
