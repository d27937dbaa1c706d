-- Spots, a row and a column each, and the places that they are of.
-- Assumes nothing.
use mathlib.Core.Bool.{true}
use mathlib.Core.Path.{◌≡◌, ◌∙◌}
use Prim.Native.Nat.{ℕ, ◌+◌, ◌-◌, ◌*◌, ◌<◌, ◌≤◌}
use native.Mathlib.Omega.{arith}
use Rattle.sheet.specs.Leaves.{Place, Cell, SpotIs}
use Rattle.sheet.specs.Shape.{within}
use Rattle.sheet.specs.declared.step.Spot.{Spot}
use Rattle.sheet.proofs.Places.{place_lt, within_true}

-- ---- numbers that fit

-- the place of a cell
pub cell_below : {rows cols r c : ℕ} → Cell rows cols r c → r * cols + c < rows * cols
cell_below {rows} {cols} {r} {c} s = place_lt rows cols r c s.row_in s.col_in

pub cell_place : {rows cols r c : ℕ} → Cell rows cols r c → Place rows cols (r * cols + c)
cell_place s = record { rows_fit = s.rows_fit; cols_fit = s.cols_fit; below = cell_below s }

-- the cell of a spot
pub spot_cell : {rows cols q : ℕ} {s : Spot} → SpotIs rows cols s q → rows ≤ 4096 → cols ≤ 4096 → Cell rows cols s.row s.col
spot_cell at a b = record { rows_fit = a; cols_fit = b; row_in = at.row_in; col_in = at.col_in }

-- the spot of a place that is the same
pub spot_same : {rows cols q p : ℕ} {s : Spot} → SpotIs rows cols s q → q ≡ p → SpotIs rows cols s p
spot_same at e = record { place_is = at.place_is ∙ e; row_in = at.row_in; col_in = at.col_in }

pub spot_on : (rows cols D R : ℕ) {q : ℕ} → within D rows ≡ true → within R cols ≡ true → (D - 1) * cols + (R - 1) ≡ q
    → SpotIs rows cols (record { row = D - 1; col = R - 1 }) q
spot_on rows cols D R a b e =
    let d = within_true D rows a in
    let r = within_true R cols b in
    record { place_is = e; row_in = omega arith; col_in = omega arith }
