-- The first and last rows and columns, by row and column. Assumes nothing.
use mathlib.Core.Path.{◌≡◌, refl, sym, ◌∙◌}
use mathlib.Core.Bool.{Bool, true, false, ◌||◌, true≢false}
use Prim.Native.Nat.{ℕ, suc, ◌+◌, ◌*◌, ◌<◌}
use lib.Dec.{eqb}
use borrow.Author.Tests.{eqb-true, eq-eqb, ne_eqb}
use Rattle.sheet.proofs.Places.{row_of, col_of}
use Rattle.tile.specs.Border.{edge_at, on_border}

or_right : (a b : Bool) → b ≡ true → (a || b) ≡ true
or_right true b e = refl
or_right false b e = e

module _ (rows cols r c : ℕ) where
  pub edge_top : r ≡ 0 → edge_at rows cols r c ≡ true
  unfolding edge_at
  edge_top e = rw (eq-eqb r 0 e)

  pub edge_foot : suc r ≡ rows → edge_at rows cols r c ≡ true
  unfolding edge_at
  edge_foot e = or_right (eqb r 0) (eqb (suc r) rows || (eqb c 0 || eqb (suc c) cols)) (rw (eq-eqb (suc r) rows e))

  pub edge_left : c ≡ 0 → edge_at rows cols r c ≡ true
  unfolding edge_at
  edge_left e =
      or_right (eqb r 0) (eqb (suc r) rows || (eqb c 0 || eqb (suc c) cols))
      (or_right (eqb (suc r) rows) (eqb c 0 || eqb (suc c) cols) (rw (eq-eqb c 0 e)))

  pub edge_right : suc c ≡ cols → edge_at rows cols r c ≡ true
  unfolding edge_at
  edge_right e =
      or_right (eqb r 0) (eqb (suc r) rows || (eqb c 0 || eqb (suc c) cols))
      (or_right (eqb (suc r) rows) (eqb c 0 || eqb (suc c) cols) (or_right (eqb c 0) (eqb (suc c) cols) (eq-eqb (suc c) cols e)))

  -- in neither the first row nor the last nor the first column, the last column decides
  pub edge_else : (r ≡ 0 → ⊥) → (suc r ≡ rows → ⊥) → (c ≡ 0 → ⊥) → edge_at rows cols r c ≡ eqb (suc c) cols
  unfolding edge_at
  edge_else a b d = rw (ne_eqb r 0 a, ne_eqb (suc r) rows b, ne_eqb c 0 d)

  pub edge_inner : (r ≡ 0 → ⊥) → (suc r ≡ rows → ⊥) → (c ≡ 0 → ⊥) → (suc c ≡ cols → ⊥) → edge_at rows cols r c ≡ false
  edge_inner a b d e = edge_else a b d ∙ ne_eqb (suc c) cols e

  -- a border cell between the first row and the last, not in the first column, is in the last
  pub edge_is_right : edge_at rows cols r c ≡ true → (r ≡ 0 → ⊥) → (suc r ≡ rows → ⊥) → (c ≡ 0 → ⊥) → suc c ≡ cols
  edge_is_right e a b d = eqb-true (suc c) cols (sym (edge_else a b d) ∙ e)

  -- the cell's place is on the border exactly when its row and column say so
  pub border_at : c < cols → on_border rows cols (r * cols + c) ≡ edge_at rows cols r c
  unfolding on_border
  border_at l = rw (row_of cols r c l, col_of cols r c l)

  -- a cell that is not on the edge has a row and a column on each side
  pub off_edge : edge_at rows cols r c ≡ false → (r ≡ 0 → ⊥) × (suc r ≡ rows → ⊥) × (c ≡ 0 → ⊥) × (suc c ≡ cols → ⊥)
  off_edge f = (
    λ e. true≢false (sym (edge_top e) ∙ f),
    λ e. true≢false (sym (edge_foot e) ∙ f),
    λ e. true≢false (sym (edge_left e) ∙ f),
    λ e. true≢false (sym (edge_right e) ∙ f),
  )
