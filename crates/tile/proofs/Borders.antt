-- Border cells and their numbers, each of the other: what follows from counting alone.
-- Assumes nothing.
use mathlib.Core.Path.{◌≡◌, sym, ap, ◌∙◌}
use mathlib.Core.Bool.{true}
use Prim.Native.Nat.{ℕ, ◌*◌, ◌<◌}
use Rattle.tile.specs.Border.{on_border, border_cells, border_number, border_place}
use Rattle.tile.proofs.Rank.{rank_rises, nth_is, nth_of}

module _ (rows cols : ℕ) where
  -- ---- the place of border cell b

  pub place_in_lem : (b : ℕ) → b < border_cells rows cols → border_place rows cols b < rows * cols
  unfolding border_cells border_place
  place_in_lem b l = (nth_is (on_border rows cols) (rows * cols) b l).0

  pub place_on : (b : ℕ) → b < border_cells rows cols → on_border rows cols (border_place rows cols b) ≡ true
  unfolding border_cells border_place
  place_on b l = (nth_is (on_border rows cols) (rows * cols) b l).1

  pub place_number : (b : ℕ) → b < border_cells rows cols → border_number rows cols (border_place rows cols b) ≡ b
  unfolding border_cells border_number border_place
  place_number b l = (nth_is (on_border rows cols) (rows * cols) b l).2

  -- no two have one place
  pub place_once : (a b : ℕ) → a < border_cells rows cols → b < border_cells rows cols → border_place rows cols a ≡ border_place rows cols b → a ≡ b
  place_once a b la lb e = sym (place_number a la) ∙ ap (border_number rows cols) e ∙ place_number b lb

  -- ---- the number of the border cell at place p

  pub number_below : (p : ℕ) → p < rows * cols → on_border rows cols p ≡ true → border_number rows cols p < border_cells rows cols
  unfolding border_cells border_number
  number_below p l e = rank_rises (on_border rows cols) p (rows * cols) l e

  pub number_place : (p : ℕ) → p < rows * cols → on_border rows cols p ≡ true → border_place rows cols (border_number rows cols p) ≡ p
  unfolding border_number border_place
  number_place p l e = nth_of (on_border rows cols) (rows * cols) p l e
  -- ---- how many there are
