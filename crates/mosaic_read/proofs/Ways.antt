-- The way of a border cell, for each way through the code that tests it.
-- Assumes nothing.
use mathlib.Core.Path.{◌≡◌, sym, ◌∙◌}
use Prim.Native.Nat.{ℕ, ◌*◌, ◌≤◌, ◌<◌}
use native.Mathlib.Omega.{arith}
use Rattle.std.proofs.Common.{Option, Some, None, is_some}
use mathlib.Core.Bool.{Bool, true, false, not, true≢false}
use Rattle.sheet.specs.Compass.{is_arrow, step_of}
use Rattle.sheet.specs.Leaves.{SpotOf}
use Rattle.sheet.specs.declared.step.Spot.{Spot}
use Rattle.sheet.specs.Sheet.{step_from}
use Rattle.sheet.proofs.Places.{place_lt}
use Rattle.tile.specs.Border.{border_place}
use Rattle.mosaic_read.specs.BorderWay.{LeadsOver}
use Rattle.mosaic_read.specs.BorderRecord.{record_count, record_way, record_code, RecordWayOk}
use Rattle.mosaic_read.specs.Method.{Says}
use Rattle.mosaic_read.specs.declared.record.BorderRecord.{BorderRecord}

module _ (r : BorderRecord) (b : ℕ) {count number code : ℕ} (count_is : count ≡ record_count r b) (over : LeadsOver r b number code) where
  -- a way that is neither mark: all but the last test are met
  module _ (z : count ≡ 0 → ⊥) (l : number < r.borders) (same_way : record_way r number ≡ number) (same_code : record_code r number ≡ code) (arrow : is_arrow code ≡ true) where
    pub leads_says : {rows cols place : ℕ} → rows ≡ r.tile.rows → cols ≡ r.tile.cols → place ≡ border_place r.tile.rows r.tile.cols number
        → (x : Option Spot) → SpotOf rows cols x (step_from rows cols (step_of code) place) → (off : Bool) → is_some x ≡ not off → Says (RecordWayOk r b) off
    leads_says {rows} {cols} {place} rows_are cols_are place_is x at off = told x off (rw (rows_are, cols_are, place_is) at at)
      where
        outside : r.tile.rows * r.tile.cols ≤ step_from r.tile.rows r.tile.cols (step_of code) (border_place r.tile.rows r.tile.cols number) → RecordWayOk r b
        outside out = record {
          absent_zero = λ m. absurd (over.not_absent m);
          zero_absent = λ e. absurd (z (count_is ∙ e));
          leads = λ n m. record {
            border = omega (arith, over.number_is);
            same_way = rw (← over.number_is) same_way;
            same_code = rw (← over.number_is, ← over.code_is) same_code;
            arrow = rw (← over.code_is) arrow;
            outside = rw (← over.number_is, ← over.code_is) out;
          };
        }

        told : (x : Option Spot) (off : Bool) → SpotOf r.tile.rows r.tile.cols x (step_from r.tile.rows r.tile.cols (step_of code) (border_place r.tile.rows r.tile.cols number)) → is_some x ≡ not off → Says (RecordWayOk r b) off
        told None true at e = outside (omega arith)
        told None false at e = absurd (true≢false (sym e))
        told (Some s) true at e = absurd (true≢false e)
        told (Some s) false at e = λ h.
            let far : r.tile.rows * r.tile.cols ≤ step_from r.tile.rows r.tile.cols (step_of code) (border_place r.tile.rows r.tile.cols number) = rw (over.number_is, over.code_is) (h.leads over.not_absent over.not_inside).outside in
            omega (arith, at.place_is, place_lt r.tile.rows r.tile.cols s.row s.col at.row_in at.col_in)
