-- Walking to the last cell of a path, in a tile without loops: what each step of the two walks keeps.
-- Assumes nothing.
use mathlib.Core.Bool.{true}
use mathlib.Core.List.{List}
use mathlib.Core.Path.{◌≡◌, sym, ap, ◌∙◌}
use Prim.Native.Nat.{ℕ, zero, suc, ◌-◌, ◌*◌, ◌<◌, ◌≤◌}
use native.Mathlib.Nat.{mul-le-mul}
use native.Mathlib.Omega.{arith}
use lib.Dec.{eqb}
use lib.ListN.{length, set}
use lib.Seq.{get_or-set_same, get_or-set_other}
use Rattle.flow.specs.Net.{on, steps}
use Rattle.flow.specs.Path.{End}
use Rattle.flow.proofs.Bound.{counts_bound}
use Rattle.flow.proofs.Count.{count_rises, through_counts}
use Rattle.flow.proofs.Last.{last_past, last_step, last_end}
use Rattle.flow.proofs.LookStep.{zeros}
use Rattle.flow.proofs.Sum.{on_eq, on_ne, sum_change, sum_ones}
use Rattle.flow.proofs.Through.{through}
use Rattle.flow.proofs.Walk.{steps_suc}
use Rattle.sheet.specs.Leaves.{SpotIs}
use Rattle.sheet.specs.Sheet.{land_at, dest_of, count_at}
use Rattle.sheet.specs.Grid.{OnGrid, cells_in, place_in, dest_in}
use Rattle.sheet.specs.declared.grid.Grid.{Grid}
use Rattle.sheet.specs.declared.step.Spot.{Spot}
use Rattle.sheet.proofs.Dest.{to_land, dest_beyond}
use Rattle.sheet.proofs.Spots.{cell_below, spot_cell}
use Rattle.tile.specs.Way.{last_cell}
use Rattle.tile.proofs.Ways.{last_in_lem}
use Rattle.tile_ways.specs.Ways.{FreeTile, last_in}

-- how far p is from the end, at most: fewer cells can lie below a cell that more water passes
unfoldable pub to_go : (rows cols : ℕ) → List ℕ → ℕ → ℕ
to_go rows cols g p = rows * cols - through (rows * cols) (dest_of rows cols g) (λ q. 1) p

-- the same in a tile with its codes
abbrev pub to_go_in : Grid → ℕ → ℕ
to_go_in g p = to_go g.sheet.rows g.sheet.cols g.codes.now p

module _ (rows cols : ℕ) (g : List ℕ) (t : FreeTile rows cols g) where
  out : (p : ℕ) → rows * cols ≤ p → rows * cols ≤ dest_of rows cols g p
  out = dest_beyond rows cols g t.grid_long

  -- one step on, less is to go
  pub goes_less : (p : ℕ) → p < rows * cols → dest_of rows cols g p < rows * cols → to_go rows cols g (dest_of rows cols g p) < to_go rows cols g p
  unfolding to_go
  goes_less p l h =
      let w : ℕ → ℕ = λ q. 1 in
      let counts = through_counts (rows * cols) (dest_of rows cols g) out t.free w in
      omega (
        arith,
        count_rises (rows * cols) (dest_of rows cols g) w (through (rows * cols) (dest_of rows cols g) w) counts p l h (omega arith),
        counts_bound (rows * cols) (dest_of rows cols g) out t.free w (through (rows * cols) (dest_of rows cols g) w) counts (dest_of rows cols g p) h,
        sum_ones (rows * cols),
      )

  -- a cell whose water goes to no cell is its own last cell
  pub last_here : (p : ℕ) → rows * cols ≤ dest_of rows cols g p → last_cell rows cols g p ≡ p
  unfolding last_cell
  last_here p h = last_past (rows * cols) (dest_of rows cols g) p h

  -- and of any other it is that of the cell that its water goes to
  pub last_on : (p : ℕ) → p < rows * cols → dest_of rows cols g p < rows * cols → last_cell rows cols g (dest_of rows cols g p) ≡ last_cell rows cols g p
  unfolding last_cell
  last_on p l h = last_step (rows * cols) (dest_of rows cols g) out t.free p l h

  -- the last cell of a land cell's path is land
  pub last_land : (p : ℕ) → p < rows * cols → land_at g p ≡ true → land_at g (last_cell rows cols g p) ≡ true
  unfolding last_cell steps
  last_land p l a = go (last_end (rows * cols) (dest_of rows cols g) out t.free p l)
    where
      go : {e : ℕ} → End (rows * cols) (dest_of rows cols g) p e → land_at g e ≡ true
      go (zero, s, h, o) = ap (land_at g) (sym s) ∙ a
      go {e} (suc i, s, h, o) = to_land rows cols g (steps (dest_of rows cols g) i p) (sym (steps_suc (dest_of rows cols g) i p) ∙ s) h

-- ---- the last cell of a path from a cell of it

module _ (g : Grid) (t : FreeTile g.sheet.rows g.sheet.cols g.codes.now) (at : Spot) (cell : OnGrid g at) where
  -- is a cell
  pub last_below : last_in g (place_in g at) < cells_in g
  last_below = last_in_lem g.sheet.rows g.sheet.cols g.codes.now t.grid_long t.free (place_in g at) (cell_below cell)

  -- and its number fits
  pub last_fits : last_in g (place_in g at) < 16777216
  last_fits = omega (arith, last_below, mul-le-mul cell.rows_fit cell.cols_fit)

-- ---- a step from one cell of it to the next

module _ (g : Grid) (t : FreeTile g.sheet.rows g.sheet.cols g.codes.now) (at s : Spot) (cell : OnGrid g at) (to : SpotIs g.sheet.rows g.sheet.cols s (dest_in g (place_in g at))) where
  pub next_cell : OnGrid g s
  next_cell = spot_cell to cell.rows_fit cell.cols_fit

  inside : dest_in g (place_in g at) < cells_in g
  inside = omega (arith, to.place_is, cell_below next_cell)

  pub next_last : last_in g (place_in g s) ≡ last_in g (place_in g at)
  next_last = ap (last_in g) to.place_is ∙ last_on g.sheet.rows g.sheet.cols g.codes.now t (place_in g at) (cell_below cell) inside

  pub next_less : to_go_in g (place_in g s) < to_go_in g (place_in g at)
  next_less = omega (arith, ap (to_go_in g) to.place_is, goes_less g.sheet.rows g.sheet.cols g.codes.now t (place_in g at) (cell_below cell) inside)

-- ---- the last cells that are known

-- where one is stored that was not known, one fewer is not
pub known_less : (n : ℕ) (k : List ℕ) (p v : ℕ) → p < n → p < length k → count_at k p ≡ 0 → (v ≡ 0 → ⊥) → zeros n (count_at (set k p v)) < zeros n (count_at k)
unfolding zeros
known_less n k p v l h z some =
    omega (
      arith,
      sum_change {f = λ q. on (eqb (count_at (set k p v) q) 0) 1} {g = λ q. on (eqb (count_at k q) 0) 1} l (λ q lq d. rw (get_or-set_other k p q v 0 d)),
      on_eq (count_at k p) 0 1 z,
      on_ne (count_at (set k p v) p) 0 1 (λ x. some (sym (get_or-set_same k p v 0 h) ∙ x)),
    )
