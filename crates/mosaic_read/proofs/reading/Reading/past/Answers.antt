-- `mosaic_read::reading::Reading::past` meets its contract: the next record stands in the next tile row, or in the next tile column.
-- Assumes nothing.
use native.Mathlib.Omega.{arith}
use Rattle.mosaic_read.proofs.Turns.{few, end_inside, reached_row, reached_col}
use Rattle.mosaic_read.proofs.reading.Reading.past.Goals as goal
use Rattle.mosaic_read.proofs.reading.Reading.past.Goals.{then-self, else-self}

pub overflow_add-result : goal.overflow_add-result
overflow_add-result c = omega (arith, few c.args.self.now.reached c.requires.well_formed c.requires.is_at)

pub end-requires : goal.end-requires
end-requires c = end_inside c.args.self.now.reached c.requires.well_formed c.requires.is_at

pub invariant_of-result : goal.invariant_of-result
invariant_of-result c =
    let r = c.args.self.now.reached in
    record {
      reached = elim c.if-self.branch [
        | then-self w ↦ rw w.above-is (reached_row r c.requires.well_formed c.requires.is_at c.end.ensures w.if-self.true)
        | else-self w ↦ rw w.above-is (reached_col r c.requires.well_formed c.requires.is_at c.end.ensures w.if-self.false)
      ];
    }
