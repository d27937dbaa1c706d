-- `tile::border::border_spot` meets its contract: a law of where border cells stand for each way through it.
-- Assumes nothing.
use native.Mathlib.Omega.{arith}
use Rattle.tile.proofs.Where.{at_spot, at_thin, at_top, at_left, at_right, at_foot, rows_more}
use Rattle.tile.proofs.border.border_spot.Goals as goal

pub returns-then-cols-eq1 : goal.returns-then-cols-eq1
returns-then-cols-eq1 c =
    let at = at_thin c.args.tile.rows c.args.tile.cols c.args.b c.requires (omega arith) in
    at_spot at

pub returns-then-b-cols : goal.returns-then-b-cols
returns-then-b-cols c =
    let at = at_top c.args.tile.rows c.args.tile.cols c.args.b c.requires (omega arith) (omega arith) (omega arith) in
    at_spot at

pub overflow_sub-between : goal.overflow_sub-between
overflow_sub-between c = omega (arith, rows_more c.args.tile.rows c.args.tile.cols c.args.b c.requires (omega arith) (omega arith) (omega arith))

pub returns-then-between-past : goal.returns-then-between-past
returns-then-between-past c =
    let at = at_foot c.args.tile.rows c.args.tile.cols c.args.b c.requires (omega arith) (omega arith) (omega arith) (omega arith) in
    at_spot at

pub returns-then-past-eq0 : goal.returns-then-past-eq0
returns-then-past-eq0 c =
    let at = at_left c.args.tile.rows c.args.tile.cols c.args.b c.requires (omega arith) (omega arith) (omega arith) (omega arith) (omega arith) in
    at_spot at

pub returns : goal.returns
returns c =
    let at = at_right c.args.tile.rows c.args.tile.cols c.args.b c.requires (omega arith) (omega arith) (omega arith) (omega arith) (omega arith) in
    at_spot at
