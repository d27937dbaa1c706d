-- What is written of a mosaic, as the code holds it: one number for each of its border cells. Nothing here is cited by a public promise.
-- Assumes nothing.
use Rattle.std.specs.Prelude.{List, ℕ}
use Rattle.mosaic_net.specs.Method.{Filled, leads_by, pours_by, own_by, NetWritten}
use Rattle.mosaic_step.specs.Mosaic.{all_in}
use Rattle.mosaic_step.specs.declared.records.Mosaic.{Mosaic}

-- the first `upto` are those of f; all are
abbrev pub FilledTo : Mosaic → (ℕ → ℕ) → List ℕ → ℕ → Type 0
FilledTo m f list upto = Filled (all_in m) f list upto

abbrev pub AllFilled : Mosaic → (ℕ → ℕ) → List ℕ → Type 0
AllFilled m f list = FilledTo m f list (all_in m)

-- where a border cell leads, what it pours onto, and its own count
abbrev pub leads_in : Mosaic → ℕ → ℕ
leads_in m = leads_by m.tile_rows m.tile_cols m.records.now

abbrev pub pours_in : Mosaic → ℕ → ℕ
pours_in m = pours_by m.tile_rows m.tile_cols m.records.now

abbrev pub own_in : Mosaic → ℕ → ℕ
own_in m = own_by m.tile_rows m.tile_cols m.records.now

-- its net is written down
abbrev pub NetOf : Mosaic → (pours feeds own table : List ℕ) → Type 0
NetOf m = NetWritten m.tile_rows m.tile_cols m.records.now
