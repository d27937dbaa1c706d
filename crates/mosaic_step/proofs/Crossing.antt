-- The border cell that an exit steps onto, by the pieces that its row and its column move to: off the mosaic, or a border cell of another tile.
-- Assumes nothing.
use mathlib.Core.Bool.{true}
use mathlib.Core.Logic.{inl, inr}
use mathlib.Core.Path.{◌≡◌, sym, ap, ◌∙◌}
use Prim.Native.Nat.{ℕ, ◌+◌, ◌-◌, ◌*◌, ◌/◌, ◌%◌, ◌≤◌, ◌<◌}
use native.Mathlib.Omega.{arith}
use Rattle.flow.specs.Net.{sum}
use Rattle.sheet.specs.Compass.{is_arrow, step_of}
use Rattle.sheet.specs.Sheet.{step_from}
use Rattle.sheet.proofs.Places.{place_lt, row_of, col_of}
use Rattle.tile.specs.Border.{edge_at, on_border}
use Rattle.mosaic.specs.Layout.{height_of, width_of, cells_in, borders_in, borders_before, all_borders, place_in, number_in_mosaic}
use Rattle.mosaic.specs.Join.{onto}
use Rattle.mosaic.proofs.Across.{onto_neighbour, onto_north, onto_south, onto_west, onto_east}
use Rattle.mosaic.proofs.Grid.{spot_place}
use Rattle.mosaic.proofs.Neighbours.{Moved, beside}
use Rattle.mosaic.proofs.Pieces.{row_in, col_in}
use Rattle.mosaic.proofs.Steps.{down, right, down_most, right_most, step_inside}
use Rattle.mosaic_step.specs.Line.{piece_after, number_after}
use Rattle.mosaic_step.proofs.Moves.{line_moved, line_off}

-- row r and column c of tile s are those of a border cell, and it is the one that is sought
pub record Found (I J : ℕ) (hs ws : ℕ → ℕ) (sought s r c : ℕ) : Type 0 where
  pub tile : s < I * J
  pub row_in : r < height_of J hs s
  pub col_in : c < width_of J ws s
  pub edge : edge_at (height_of J hs s) (width_of J ws s) r c ≡ true
  pub is : sought ≡ number_in_mosaic J hs ws s (r * width_of J ws s + c)

edge_of : (rows cols r c : ℕ) → c < cols → on_border rows cols (r * cols + c) ≡ true → edge_at rows cols r c ≡ true
unfolding on_border
edge_of rows cols r c l e = rw (row_of cols r c l, col_of cols r c l) at e

-- border cell b of tile t stands in row r and column c of its tile; its way has the arrow a, which steps outside the tile from there
module _ (I J : ℕ) (hs ws code : ℕ → ℕ) (t b r c a : ℕ) (lt : t < I * J) (lb : b < borders_in J hs ws t) (lr : r < height_of J hs t) (lc : c < width_of J ws t)
    (stands : r * width_of J ws t + c ≡ place_in J hs ws t b) (says : code (borders_before J hs ws t + b) ≡ a) (arrow : is_arrow a ≡ true)
    (outside : cells_in J hs ws t ≤ step_from (height_of J hs t) (width_of J ws t) (step_of a) (r * width_of J ws t + c))
    (some_height : (i : ℕ) → i < I → 0 < hs i) (some_width : (j : ℕ) → j < J → 0 < ws j) where
  -- the row moves off the mosaic
  pub cross_rows : {i : ℕ} → i ≡ piece_after I (t / J) (height_of J hs t) (r + down a) → I ≤ i → onto I J hs ws code (borders_before J hs ws t + b) ≡ all_borders I J hs ws
  cross_rows p l =
      elim (line_off hs I (t / J) r (down a) (row_in I J t lt) lr (down_most a arrow) some_height p l) [
        | inl (e, z) ↦ onto_north I J hs ws code t b r c a lt lb lr lc stands says arrow e z
        | inr (e, z) ↦ onto_south I J hs ws code t b r c a lt lb lr lc stands says arrow e z
      ]

  -- the column does
  pub cross_cols : {j : ℕ} → j ≡ piece_after J (t % J) (width_of J ws t) (c + right a) → J ≤ j → onto I J hs ws code (borders_before J hs ws t + b) ≡ all_borders I J hs ws
  cross_cols p l =
      elim (line_off ws J (t % J) c (right a) (col_in I J t lt) lc (right_most a arrow) some_width p l) [
        | inl (e, z) ↦ onto_west I J hs ws code t b r c a lt lb lr lc stands says arrow e z
        | inr (e, z) ↦ onto_east I J hs ws code t b r c a lt lb lr lc stands says arrow e z
      ]

  -- a move within tile t would not step outside
  apart : (s r' c' : ℕ) → Moved hs I (t / J) r (down a) (s / J) r' → Moved ws J (t % J) c (right a) (s % J) c' → t ≡ s → ⊥
  apart s r' c' m n k =
      let fr : sum (s / J) hs ≡ sum (t / J) hs = ap (λ (q : ℕ). sum (q / J) hs) (sym k) in
      let fc : sum (s % J) ws ≡ sum (t % J) ws = ap (λ (q : ℕ). sum (q % J) ws) (sym k) in
      let hr : hs (s / J) ≡ hs (t / J) = ap (λ (q : ℕ). hs (q / J)) (sym k) in
      let wc : ws (s % J) ≡ ws (t % J) = ap (λ (q : ℕ). ws (q % J)) (sym k) in
      omega (
        arith,
        step_inside a arrow (height_of J hs t) (width_of J ws t) r c lc (record {
          north = omega (arith, m.number_is);
          south = omega (arith, m.number_is, m.number_in_lem);
          west = omega (arith, n.number_is);
          east = omega (arith, n.number_is, n.number_in_lem);
        }),
        place_lt (height_of J hs t) (width_of J ws t) (r + down a - 1) (c + right a - 1) (omega (arith, m.number_is, m.number_in_lem)) (omega (arith, n.number_is, n.number_in_lem)),
      )

  -- neither does
  pub cross_to : (s : ℕ) {i j r' c' : ℕ} → i ≡ piece_after I (t / J) (height_of J hs t) (r + down a) → i < I → j ≡ piece_after J (t % J) (width_of J ws t) (c + right a) → j < J
      → s ≡ i * J + j → r' ≡ number_after (t / J) (r + down a) i (height_of J hs s) → c' ≡ number_after (t % J) (c + right a) j (width_of J ws s)
      → Found I J hs ws (onto I J hs ws code (borders_before J hs ws t + b)) s r' c'
  cross_to s {i} {j} {r'} {c'} p li q lj e n o =
      let si : s / J ≡ i = ap (λ (x : ℕ). x / J) e ∙ row_of J i j lj in
      let sj : s % J ≡ j = ap (λ (x : ℕ). x % J) e ∙ col_of J i j lj in
      let ls : s < I * J = omega (arith, place_lt I J i j li lj) in
      let m : Moved hs I (t / J) r (down a) (s / J) r' = line_moved hs I (t / J) r (down a) (row_in I J t lt) lr (down_most a arrow) some_height (si ∙ p) (row_in I J s ls)
      (n ∙ ap (λ (x : ℕ). number_after (t / J) (r + down a) x (height_of J hs s)) (sym si)) in
      let k : Moved ws J (t % J) c (right a) (s % J) c' = line_moved ws J (t % J) c (right a) (col_in I J t lt) lc (right_most a arrow) some_width (sj ∙ q) (col_in I J s ls)
      (o ∙ ap (λ (x : ℕ). number_after (t % J) (c + right a) x (width_of J ws s)) (sym sj)) in
      let d = apart s r' c' m k in
      let ly = spot_place I J hs ws s r' c' ls m.number_in_lem k.number_in_lem in
      let ry : (r' * width_of J ws s + c') / width_of J ws s ≡ r' = row_of (width_of J ws s) r' c' k.number_in_lem in
      let cy : (r' * width_of J ws s + c') % width_of J ws s ≡ c' = col_of (width_of J ws s) r' c' k.number_in_lem in
      record {
        tile = ls;
        row_in = m.number_in_lem;
        col_in = k.number_in_lem;
        edge = edge_of (height_of J hs s) (width_of J ws s) r' c' k.number_in_lem (beside I J hs ws a arrow t s r c (r' * width_of J ws s + c') lt ls lr lc ly d (omega (arith, m.number_is)) (omega (arith, k.number_is)));
        is = onto_neighbour I J hs ws code t b r c a lt lb lr lc stands says arrow s r' c' ls d m k;
      }
