-- The bridge: the sum over all cells whose water goes to p is the sum over the eight neighbours of p whose arrows step onto p. Of the eight
-- steps a cell's own code picks one, and of all cells one alone lies a given step before p.
-- Assumes nothing.
use mathlib.Core.Path.{◌≡◌, refl, sym, ap, ◌∙◌}
use mathlib.Core.Bool.{true, true≢false}
use mathlib.Core.List.{List}
use mathlib.Core.Logic.{inl, inr}
use Prim.Native.Nat.{ℕ, ◌+◌, ◌-◌, ◌*◌, ◌/◌, ◌%◌, ◌<◌}
use native.Mathlib.Omega.{arith}
use native.Mathlib.Nat.{div-add-mod'}
use lib.Dec.{eqb}
use lib.ListN.{length}
use borrow.Author.Tests.{eq-eqb, ne_eqb}
use Rattle.flow.specs.Net.{on, sum, given}
use Rattle.flow.proofs.Sum.{test, same, on_on, on_true, on_false, on_ne, sum_ext, sum_none, sum_swap, sum_delta, sum_delta_out}
use Rattle.flow.proofs.Walk.{below}
use Rattle.sheet.specs.Compass.{step_at, step_of, line_of, is_arrow}
use Rattle.sheet.specs.Leaves.{Place, lift}
use Rattle.around.specs.Around.{opposite, comes_from, adds, term}
use Rattle.sheet.specs.Sheet.{code_at, land_at, step_from, dest_of}
use Rattle.sheet.proofs.Table.{below8, line_code, line_hit, line_arrow, arrow_line}
use Rattle.sheet.proofs.Signed.{step_is, down, right}
use Rattle.sheet.proofs.Places.{row_lt, col_lt, row_of, col_of, within_true, true_within}
use Rattle.sheet.proofs.Dest.{both_on, no_land, dest_absent, dest_land, dest_out, to_land}

-- ---- a step and its opposite undo each other

pub opposite_lt : (j : ℕ) → opposite j < 8
opposite_lt j = omega arith

opposite_twice : (j : ℕ) → j < 8 → opposite (opposite j) ≡ j
opposite_twice j h = omega arith

rows_undo : (j : ℕ) → j < 8 → lift (step_at j).1 + lift (step_at (opposite j)).1 ≡ 2
rows_undo = below8 (λ j. lift (step_at j).1 + lift (step_at (opposite j)).1 ≡ 2) refl refl refl refl refl refl refl refl

cols_undo : (j : ℕ) → j < 8 → lift (step_at j).2 + lift (step_at (opposite j)).2 ≡ 2
cols_undo = below8 (λ j. lift (step_at j).2 + lift (step_at (opposite j)).2 ≡ 2) refl refl refl refl refl refl refl refl

-- from q by the step of line j to p: then from p by the opposite step to q
pub step_back : (rows cols j q p : ℕ) → j < 8 → Place rows cols q → Place rows cols p
    → step_from rows cols (step_at j) q ≡ p → step_from rows cols (step_at (opposite j)) p ≡ q
step_back rows cols j q p h at_q at_p e =
    let on = both_on _ _ _ _ p (sym (step_is rows cols j q h) ∙ e) at_p.below in
    let a = within_true _ _ on.0 in
    let b = within_true _ _ on.1 in
    let a' = rows_undo j h in
    let b' = cols_undo j h in
    let r : p / cols ≡ down cols j q - 1 = ap (λ n. n / cols) (sym on.2) ∙ row_of cols (down cols j q - 1) (right cols j q - 1) (omega arith) in
    let c : p % cols ≡ right cols j q - 1 = ap (λ n. n % cols) (sym on.2) ∙ col_of cols (down cols j q - 1) (right cols j q - 1) (omega arith) in
    let r' : down cols (opposite j) p ≡ q / cols + 1 = omega arith in
    let c' : right cols (opposite j) p ≡ q % cols + 1 = omega arith in
    rw (step_is rows cols (opposite j) p (opposite_lt j), r', c', true_within (q / cols + 1) rows (omega arith) (omega (arith, row_lt at_q)), true_within (q % cols + 1) cols (omega arith) (omega (arith, col_lt at_q)))
    (let y : q / cols + 1 - 1 ≡ q / cols = omega arith in
    let z : q % cols + 1 - 1 ≡ q % cols = omega arith in
    rw (y, z) (div-add-mod' q cols))

-- ---- the sum over a cell's givers

-- two tests that say the same
pub eqb_alike : (a b c d : ℕ) → (a ≡ b → c ≡ d) → (c ≡ d → a ≡ b) → eqb a b ≡ eqb c d
eqb_alike a b c d f h = elim (same a b) [ inl e ↦ eq-eqb a b e ∙ sym (eq-eqb c d (f e)) | inr e ↦ ne_eqb a b e ∙ sym (ne_eqb c d (λ z. e (h z))) ]

-- a cell has the code of line j exactly when j is its code's line
pub code_line : (x j : ℕ) → j < 8 → eqb x (step_at j).0 ≡ eqb j (line_of x)
code_line x j h = eqb_alike x (step_at j).0 j (line_of x)
    (λ e. sym (ap line_of e ∙ line_code j h))
    (λ e. let l : line_of x < 8 = omega arith in sym (ap (λ k. (step_at k).0) e ∙ line_hit x l))

module _ (rows cols : ℕ) (g : List ℕ) (w : ℕ → ℕ) (p : ℕ) (at_p : Place rows cols p) (long : length g ≡ rows * cols) (land : land_at g p ≡ true) where
  -- what q gives to p, from the step of q's own code
  own_step : (q : ℕ) → land_at g q ≡ true → eqb (dest_of rows cols g q) p ≡ eqb (step_from rows cols (step_of (code_at g q)) q) p
  own_step q t = elim (test (land_at g (step_from rows cols (step_of (code_at g q)) q))) [
    | inl u ↦ rw (dest_land rows cols g q t refl u)
    | inr u ↦ eqb_alike (dest_of rows cols g q) p (step_from rows cols (step_of (code_at g q)) q) p
        (λ e. let z = dest_out rows cols g q t refl u in omega (arith, at_p.below))
        (λ e. absurd (true≢false (sym land ∙ ap (land_at g) (sym e) ∙ u)))
  ]

  picks : (q : ℕ) → land_at g q ≡ true → on (eqb (step_from rows cols (step_of (code_at g q)) q) p) (w q)
      ≡ sum 8 (λ j. on (eqb (code_at g q) (step_at j).0) (on (eqb (step_from rows cols (step_at j) q) p) (w q)))
  unfolding step_of land_at
  picks q t =
      sym (sum_ext (λ j h. ap (λ b. on b (on (eqb (step_from rows cols (step_at j) q) p) (w q))) (code_line (code_at g q) j h))
      ∙ sum_delta 8 (line_of (code_at g q)) (λ j. on (eqb (step_from rows cols (step_at j) q) p) (w q)) (arrow_line (code_at g q) t))

  -- a cell's term, over the eight steps: its own code picks one
  by_code : (q : ℕ) → on (eqb (dest_of rows cols g q) p) (w q)
      ≡ sum 8 (λ j. on (eqb (code_at g q) (step_at j).0) (on (eqb (step_from rows cols (step_at j) q) p) (w q)))
  by_code q = elim (test (land_at g q)) [
    | inl t ↦ ap (λ b. on b (w q)) (own_step q t) ∙ picks q t
    | inr t ↦ on_ne (dest_of rows cols g q) p (w q) (λ e. omega (arith, dest_absent rows cols g q t, at_p.below))
        ∙ sym (sum_none (λ j h. on_ne (code_at g q) (step_at j).0 _ (λ e. true≢false (sym (line_arrow j h) ∙ ap is_arrow (sym e) ∙ (unfold land_at in t)))))
  ]

  -- a step's term, over all cells: one alone lies that step before p
  by_place : (j q : ℕ) → j < 8 → q < rows * cols
      → on (eqb (code_at g q) (step_at j).0) (on (eqb (step_from rows cols (step_at j) q) p) (w q))
      ≡ on (eqb q (comes_from rows cols p j)) (adds g w q (step_at j).0)
  by_place j q h l =
      let at_q : Place rows cols q = record { rows_fit = at_p.rows_fit; cols_fit = at_p.cols_fit; below = l } in
      on_on (eqb (code_at g q) (step_at j).0) (eqb (step_from rows cols (step_at j) q) p) (w q)
      ∙ ap (λ b. on b (adds g w q (step_at j).0)) (eqb_alike (step_from rows cols (step_at j) q) p q (comes_from rows cols p j)
      (λ e. sym (step_back rows cols j q p h at_q at_p e))
      (λ e. ap (λ k. step_from rows cols (step_at k) q) (sym (opposite_twice j h)) ∙ step_back rows cols (opposite j) p q (opposite_lt j) at_p at_q (sym e)))

  -- the one cell, where it lies on the sheet; beyond it no code is found
  one_place : (j : ℕ) → j < 8 → sum (rows * cols) (λ q. on (eqb q (comes_from rows cols p j)) (adds g w q (step_at j).0)) ≡ term rows cols g w p j
  unfolding term
  one_place j h = elim (below (comes_from rows cols p j) (rows * cols)) [
    | inl l ↦ sum_delta (rows * cols) (comes_from rows cols p j) (λ q. adds g w q (step_at j).0) l
    | inr l ↦ sum_delta_out (rows * cols) (comes_from rows cols p j) (λ q. adds g w q (step_at j).0) l
        ∙ sym (on_ne (code_at g (comes_from rows cols p j)) (step_at j).0 _
        (λ e. true≢false (sym (line_arrow j h) ∙ ap is_arrow (sym e) ∙ (unfold land_at in no_land g (comes_from rows cols p j) (omega arith)))))
  ]

  bridge_land : given (rows * cols) (dest_of rows cols g) w p ≡ sum 8 (term rows cols g w p)
  unfolding given
  bridge_land =
      sum_ext (λ q l. by_code q)
      ∙ sum_swap (rows * cols) 8 (λ q j. on (eqb (code_at g q) (step_at j).0) (on (eqb (step_from rows cols (step_at j) q) p) (w q)))
      ∙ sum_ext (λ j h. sum_ext (λ q l. by_place j q h l) ∙ one_place j h)

-- THE BRIDGE, at every place: an absent cell is given nothing
pub bridge : (rows cols : ℕ) (g : List ℕ) (w : ℕ → ℕ) (p : ℕ) → Place rows cols p → length g ≡ rows * cols
    → given (rows * cols) (dest_of rows cols g) w p ≡ on (land_at g p) (sum 8 (term rows cols g w p))
bridge rows cols g w p at_p long = elim (test (land_at g p)) [
  | inl t ↦ bridge_land rows cols g w p at_p long t ∙ sym (on_true _ t)
  | inr t ↦ unfold given in (sum_none (λ q l. on_ne (dest_of rows cols g q) p (w q) (λ e. true≢false (sym (to_land rows cols g q e at_p.below) ∙ t))) ∙ sym (on_false _ t))
]
