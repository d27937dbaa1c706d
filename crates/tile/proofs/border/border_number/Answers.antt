-- `tile::border::border_number` meets its contract: a law of the numbers for each way through it.
-- Assumes nothing.
use native.Mathlib.Omega.{arith}
use Rattle.tile.proofs.Edge.{edge_is_right}
use Rattle.tile.proofs.Numbers.{number_thin, number_top, number_foot, number_left, number_right}
use Rattle.tile.proofs.border.border_number.Goals as goal

pub returns-then-cols-eq1 : goal.returns-then-cols-eq1
returns-then-cols-eq1 c = let a = c.args in omega (arith, number_thin a.tile.rows a.tile.cols a.at.row a.at.col (omega arith) (omega arith))

pub returns-then-r-eq0 : goal.returns-then-r-eq0
returns-then-r-eq0 c = let a = c.args in omega (arith, number_top a.tile.rows a.tile.cols a.at.row a.at.col (omega arith) (omega arith))

pub returns-then-c-eq0 : goal.returns-then-c-eq0
returns-then-c-eq0 c =
    let a = c.args in
    omega (arith, number_left a.tile.rows a.tile.cols a.at.row a.at.col (omega arith) (omega arith) (omega arith) (omega arith))

pub returns-then-r-rows : goal.returns-then-r-rows
returns-then-r-rows c =
    let a = c.args in
    omega (arith, number_right a.tile.rows a.tile.cols a.at.row a.at.col (omega arith) (omega arith) (omega arith) (edge_is_right a.tile.rows a.tile.cols a.at.row a.at.col c.requires.on_edge (omega arith) (omega arith) (omega arith)))

pub returns : goal.returns
returns c =
    let a = c.args in
    omega (arith, number_foot a.tile.rows a.tile.cols a.at.row a.at.col (omega arith) (omega arith) (omega arith) (omega arith))
