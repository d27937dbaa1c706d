-- Where a step from a cell of a tile leads: it stays in the tile, or leads to a border cell of the tile next to it, or off the mosaic.
-- Assumes nothing.
use mathlib.Core.Path.{◌≡◌, sym, ap, ap₂, ◌∙◌}
use mathlib.Core.Bool.{true}
use mathlib.Core.Logic.{inl, inr}
use Prim.Native.Nat.{ℕ, suc, ◌+◌, ◌-◌, ◌*◌, ◌/◌, ◌%◌, ◌≤◌, ◌<◌}
use native.Mathlib.Omega.{arith}
use Rattle.flow.specs.Net.{sum}
use Rattle.flow.proofs.Sum.{same, sum_suc}
use Rattle.sheet.specs.Compass.{is_arrow, step_of}
use Rattle.sheet.specs.Sheet.{step_from}
use Rattle.sheet.proofs.Places.{row_of, col_of}
use Rattle.tile.specs.Border.{on_border}
use Rattle.mosaic.specs.Layout.{sheet_rows, sheet_cols, height_of, width_of, cells_in, spot_at, sheet_place}
use Rattle.mosaic.proofs.Pieces.{row_in, col_in, same_spot, piece_below, piece_end}
use Rattle.mosaic.proofs.Grid.{spot_col_in, spot_place, spot_at_lem, Spot, spot_cover}
use Rattle.mosaic.proofs.Steps.{down, right, down_most, right_most, Inside, edge_on, step_inside, step_outside, step_says, place_inside, place_says, place_lands}

-- ---- a move along a line in k pieces

-- number r of piece i, moved by u less one, is number s of piece j
pub record Moved (f : ℕ → ℕ) (k i r u j s : ℕ) : Type 0 where
  pub piece_in : j < k
  pub number_in_lem : s < f j
  pub number_is : suc (sum j f + s) ≡ sum i f + r + u

-- inside the piece
pub moved_within : (f : ℕ → ℕ) (k i r u : ℕ) → i < k → 1 ≤ r + u → r + u ≤ f i → Moved f k i r u i (r + u - 1)
moved_within f k i r u l a b = record { piece_in = l; number_in_lem = omega arith; number_is = omega arith }

-- back over its start: to the last of the piece before it
pub moved_back : (f : ℕ → ℕ) (k i r u j : ℕ) → i < k → suc j ≡ i → r + u ≡ 0 → 0 < f j → Moved f k i r u j (f j - 1)
moved_back f k i r u j l e z p = record { piece_in = omega arith; number_in_lem = omega arith; number_is = omega (arith, sum_suc j f, ap (λ (x : ℕ). sum x f) e) }

-- on over its end: to the first of the piece after it
pub moved_on : (f : ℕ → ℕ) (k i r u : ℕ) → suc i < k → r < f i → u ≤ 2 → f i < r + u → 0 < f (suc i) → Moved f k i r u (suc i) 0
moved_on f k i r u l lr m b p = record { piece_in = l; number_in_lem = p; number_is = omega (arith, sum_suc i f) }

module _ (I J : ℕ) (hs ws : ℕ → ℕ) (a : ℕ) (arrow : is_arrow a ≡ true) where
  -- ---- from row r and column c of tile t

  module _ (t r c : ℕ) (lt : t < I * J) (lr : r < height_of J hs t) (lc : c < width_of J ws t) where
    -- the place stepped to, on the sheet
    abbrev pub next : ℕ
    next = step_from (sheet_rows I hs) (sheet_cols J ws) (step_of a) (spot_at J hs ws t r c)

    lc_sheet : sum (t % J) ws + c < sheet_cols J ws
    lc_sheet = spot_col_in I J hs ws t r c lt lr lc

    -- to row r' and column c' of tile s
    pub spot_step : (s r' c' : ℕ) → Moved hs I (t / J) r (down a) (s / J) r' → Moved ws J (t % J) c (right a) (s % J) c' → next ≡ spot_at J hs ws s r' c'
    spot_step s r' c' m n =
        step_inside a arrow (sheet_rows I hs) (sheet_cols J ws) (sum (t / J) hs + r) (sum (t % J) ws + c) lc_sheet (record {
          north = omega (arith, m.number_is);
          south = omega (arith, m.number_is, piece_below hs I (s / J) r' m.piece_in m.number_in_lem);
          west = omega (arith, n.number_is);
          east = omega (arith, n.number_is, piece_below ws J (s % J) c' n.piece_in n.number_in_lem);
        })
        ∙ ap₂ (λ (x y : ℕ). x * sheet_cols J ws + y) (omega (arith, m.number_is)) (omega (arith, n.number_is))

    -- or off the mosaic
    off : (Inside (sheet_rows I hs) (sheet_cols J ws) (sum (t / J) hs + r) (sum (t % J) ws + c) (down a) (right a) → ⊥) → next ≡ sheet_rows I hs * sheet_cols J ws
    off = step_outside a arrow (sheet_rows I hs) (sheet_cols J ws) (sum (t / J) hs + r) (sum (t % J) ws + c) lc_sheet

    first_start : (f : ℕ → ℕ) (i : ℕ) → i ≡ 0 → sum i f ≡ 0
    unfolding sum
    first_start f i e = ap (λ (x : ℕ). sum x f) e

    last_end : (f : ℕ → ℕ) (i k : ℕ) → suc i ≡ k → sum k f ≡ sum i f + f i
    last_end f i k e = omega (arith, sum_suc i f, ap (λ (x : ℕ). sum x f) e)

    pub off_north : t / J ≡ 0 → r + down a ≡ 0 → next ≡ sheet_rows I hs * sheet_cols J ws
    off_north e z = off (λ i. omega (arith, i.north, first_start hs (t / J) e))

    pub off_south : suc (t / J) ≡ I → height_of J hs t < r + down a → next ≡ sheet_rows I hs * sheet_cols J ws
    off_south e z = off (λ i. omega (arith, i.south, last_end hs (t / J) I e))

    pub off_west : t % J ≡ 0 → c + right a ≡ 0 → next ≡ sheet_rows I hs * sheet_cols J ws
    off_west e z = off (λ i. omega (arith, i.west, first_start ws (t % J) e))

    pub off_east : suc (t % J) ≡ J → width_of J ws t < c + right a → next ≡ sheet_rows I hs * sheet_cols J ws
    off_east e z = off (λ i. omega (arith, i.east, last_end ws (t % J) J e))

  -- a cell at most one row and one column from a cell of another tile is a border cell
  pub beside : (t s r c y : ℕ) → t < I * J → s < I * J → r < height_of J hs t → c < width_of J ws t → y < cells_in J hs ws s → (t ≡ s → ⊥)
      → suc (sum (s / J) hs + y / width_of J ws s) ≡ sum (t / J) hs + r + down a → suc (sum (s % J) ws + y % width_of J ws s) ≡ sum (t % J) ws + c + right a
      → on_border (height_of J hs s) (width_of J ws s) y ≡ true
  beside t s r c y lt ls lr lc ly d er ec =
      edge_on (height_of J hs s) (width_of J ws s) y (elim (same (t / J) (s / J)) [
        | inl e ↦ elim (same (t % J) (s % J)) [
          | inl f ↦ absurd (d (same_spot J t s e f))
          | inr f ↦ inr (piece_end ws (t % J) (s % J) c (y % width_of J ws s) lc (col_in _ _ y ly) f (omega (arith, right_most a arrow)) (omega (arith, right_most a arrow)))
        ]
        | inr e ↦ inl (piece_end hs (t / J) (s / J) r (y / width_of J ws s) lr (row_in _ _ y ly) e (omega (arith, down_most a arrow)) (omega (arith, down_most a arrow)))
      ])

  -- ---- from place x of tile t

  module _ (t x : ℕ) (lt : t < I * J) (lx : x < cells_in J hs ws t) where
    -- where it leads in the tile, counted by itself, and on the sheet
    abbrev here : ℕ
    here = step_from (height_of J hs t) (width_of J ws t) (step_of a) x

    abbrev there : ℕ
    there = step_from (sheet_rows I hs) (sheet_cols J ws) (step_of a) (sheet_place I J hs ws t x)

    lr : x / width_of J ws t < height_of J hs t
    lr = row_in (height_of J hs t) (width_of J ws t) x lx

    lc : x % width_of J ws t < width_of J ws t
    lc = col_in (height_of J hs t) (width_of J ws t) x lx

    -- a step that stays in the tile is the same on the sheet
    pub step_stays : here < cells_in J hs ws t → there ≡ sheet_place I J hs ws t here
    unfolding sheet_place
    step_stays l =
        let i = place_says a arrow (height_of J hs t) (width_of J ws t) x lx l in
        spot_step t (x / width_of J ws t) (x % width_of J ws t) lt lr lc t (x / width_of J ws t + down a - 1) (x % width_of J ws t + right a - 1)
        (moved_within hs I (t / J) _ _ (row_in I J t lt) i.north i.south) (moved_within ws J (t % J) _ _ (col_in I J t lt) i.west i.east)
        ∙ sym (ap (sheet_place I J hs ws t) (place_inside a arrow (height_of J hs t) (width_of J ws t) x lx i)
        ∙ spot_at_lem I J hs ws t _ _ lt (omega (arith, i.north, i.south)) (omega (arith, i.west, i.east)))

    -- a step that leaves the tile, and stays on the sheet, leads to a border cell of another tile
    pub step_leaves : cells_in J hs ws t ≤ here → there < sheet_rows I hs * sheet_cols J ws
        → (s : ℕ) × (y : ℕ) × (s < I * J) × (y < cells_in J hs ws s) × (t ≡ s → ⊥) × (on_border (height_of J hs s) (width_of J ws s) y ≡ true) × (there ≡ sheet_place I J hs ws s y)
    unfolding sheet_place
    step_leaves h l =
        let i = step_says a arrow (sheet_rows I hs) (sheet_cols J ws) (sum (t / J) hs + x / width_of J ws t) (sum (t % J) ws + x % width_of J ws t)
        (spot_col_in I J hs ws t (x / width_of J ws t) (x % width_of J ws t) lt lr lc) l in
        let (s, r, c, e) = spot_cover I J hs ws (sum (t / J) hs + x / width_of J ws t + down a - 1) (sum (t % J) ws + x % width_of J ws t + right a - 1)
        (omega (arith, i.north, i.south)) (omega (arith, i.west, i.east)) in
        go s r c i.north i.west e
      where
        go : (s r c : ℕ) → 1 ≤ sum (t / J) hs + x / width_of J ws t + down a → 1 ≤ sum (t % J) ws + x % width_of J ws t + right a
            → Spot I J hs ws (sum (t / J) hs + x / width_of J ws t + down a - 1) (sum (t % J) ws + x % width_of J ws t + right a - 1) s r c
            → (s : ℕ) × (y : ℕ) × (s < I * J) × (y < cells_in J hs ws s) × (t ≡ s → ⊥) × (on_border (height_of J hs s) (width_of J ws s) y ≡ true) × (there ≡ sheet_place I J hs ws s y)
        go s r c n w e =
            let ly = spot_place I J hs ws s r c e.tile e.row_in e.col_in in
            let d : t ≡ s → ⊥ = λ k. stays s r c n w e k in
            let ry : (r * width_of J ws s + c) / width_of J ws s ≡ r = row_of (width_of J ws s) r c e.col_in in
            let cy : (r * width_of J ws s + c) % width_of J ws s ≡ c = col_of (width_of J ws s) r c e.col_in in (
              s,
              r * width_of J ws s + c,
              e.tile,
              ly,
              d,
              beside t s (x / width_of J ws t) (x % width_of J ws t) (r * width_of J ws s + c) lt e.tile lr lc ly d (omega (arith, e.row_is)) (omega (arith, e.col_is)),
              spot_step t (x / width_of J ws t) (x % width_of J ws t) lt lr lc s r c
                  (record { piece_in = row_in I J s e.tile; number_in_lem = e.row_in; number_is = omega (arith, e.row_is) })
                  (record { piece_in = col_in I J s e.tile; number_in_lem = e.col_in; number_is = omega (arith, e.col_is) })
                  ∙ sym (spot_at_lem I J hs ws s r c e.tile e.row_in e.col_in),
            )
          where
            stays : (s r c : ℕ) → 1 ≤ sum (t / J) hs + x / width_of J ws t + down a → 1 ≤ sum (t % J) ws + x % width_of J ws t + right a
                → Spot I J hs ws (sum (t / J) hs + x / width_of J ws t + down a - 1) (sum (t % J) ws + x % width_of J ws t + right a - 1) s r c → t ≡ s → ⊥
            stays s r c n w e k =
                let fr : sum (s / J) hs ≡ sum (t / J) hs = ap (λ (q : ℕ). sum (q / J) hs) (sym k) in
                let fc : sum (s % J) ws ≡ sum (t % J) ws = ap (λ (q : ℕ). sum (q % J) ws) (sym k) in
                let hr : hs (s / J) ≡ hs (t / J) = ap (λ (q : ℕ). hs (q / J)) (sym k) in
                let wc : ws (s % J) ≡ ws (t % J) = ap (λ (q : ℕ). ws (q % J)) (sym k) in
                omega (
                  arith,
                  place_lands a arrow (height_of J hs t) (width_of J ws t) x lx (record {
                    north = omega (arith, e.row_is);
                    south = omega (arith, e.row_is, e.row_in);
                    west = omega (arith, e.col_is);
                    east = omega (arith, e.col_is, e.col_in);
                  }),
                )
