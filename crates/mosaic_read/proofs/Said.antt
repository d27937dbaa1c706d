-- What well-formed records say of the border cells: of border cell b of record t, and of border cell g of the mosaic.
-- Assumes nothing.
use mathlib.Core.List.{List}
use mathlib.Core.Path.{◌≡◌, ap₂}
use Prim.Native.Nat.{ℕ, ◌+◌, ◌*◌, ◌≤◌, ◌<◌}
use Rattle.mosaic.specs.Layout.{borders_in, borders_before, border_tile, number_in_tile}
use Rattle.mosaic.proofs.Borders.{border_tile_lem, border_in}
use Rattle.mosaic_read.specs.Records.{start_of, rows_of, cols_of, borders_of, count_in, way_in, code_in, heights, widths, Leads, RecordOk}
use Rattle.mosaic_read.specs.Said.{said_count, said_way, said_code}

-- ---- border cell b of record t

module _ {bytes : List ℕ} {J t : ℕ} (r : RecordOk bytes J t) (b : ℕ) (l : b < borders_of bytes t) where
  pub count_most : count_in bytes t b ≤ rows_of bytes t * cols_of bytes t
  count_most = r.counts.counts b l

  -- the absent mark exactly where the count is 0
  pub zero_absent : count_in bytes t b ≡ 0 → (way_in bytes t b ≡ 65535) × (code_in bytes t b ≡ 255)
  zero_absent e = (r.ways.ways b l).zero_absent e

  pub absent_zero : way_in bytes t b ≡ 65535 → code_in bytes t b ≡ 255 → count_in bytes t b ≡ 0
  absent_zero w k = (r.ways.ways b l).absent_zero (w, k)

  -- a way that is no mark leads to a border cell that is its own way, with the same code, which steps outside from there
  pub leads_out : (way_in bytes t b ≡ 65535 → ⊥) → Leads bytes (start_of bytes t) (rows_of bytes t) (cols_of bytes t) (borders_of bytes t) b
  leads_out n = (r.ways.ways b l).leads (λ m. n m.0) (λ m. n m.0)

-- ---- border cell g of the mosaic

module _ (bytes : List ℕ) (I J t b : ℕ) (lt : t < I * J) (lb : b < borders_in J (heights bytes J) (widths bytes) t) where
  tile_is : border_tile I J (heights bytes J) (widths bytes) (borders_before J (heights bytes J) (widths bytes) t + b) ≡ t
  tile_is = border_tile_lem I J (heights bytes J) (widths bytes) t b lt lb

  in_is : number_in_tile I J (heights bytes J) (widths bytes) (borders_before J (heights bytes J) (widths bytes) t + b) ≡ b
  in_is = border_in I J (heights bytes J) (widths bytes) t b lt lb

  pub said_count_lem : said_count bytes I J (borders_before J (heights bytes J) (widths bytes) t + b) ≡ count_in bytes t b
  unfolding said_count
  said_count_lem = ap₂ (λ (u a : ℕ). count_in bytes u a) tile_is in_is

  pub said_way_lem : said_way bytes I J (borders_before J (heights bytes J) (widths bytes) t + b) ≡ way_in bytes t b
  unfolding said_way
  said_way_lem = ap₂ (λ (u a : ℕ). way_in bytes u a) tile_is in_is

  pub said_code_lem : said_code bytes I J (borders_before J (heights bytes J) (widths bytes) t + b) ≡ code_in bytes t b
  unfolding said_code
  said_code_lem = ap₂ (λ (u a : ℕ). code_in bytes u a) tile_is in_is
