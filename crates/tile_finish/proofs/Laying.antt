-- What comes in is laid out by place, border cell by border cell.
-- Assumes nothing.
use mathlib.Core.Bool.{true, false}
use mathlib.Core.List.{List}
use mathlib.Core.Logic.{inl, inr}
use mathlib.Core.Path.{◌≡◌, sym, ap, ◌∙◌}
use Prim.Native.Nat.{ℕ, ◌+◌, ◌*◌, ◌<◌}
use native.Mathlib.Omega.{arith}
use lib.Dec.{ltb}
use lib.ListN.{set, length-set}
use lib.Seq.{get_or-set_same, get_or-set_other}
use borrow.Author.Tests.{lt-ltb, le-ltb}
use Rattle.flow.specs.Net.{on}
use Rattle.flow.proofs.Sum.{test, same, on_true, on_false, on_zero}
use Rattle.flow.proofs.Walk.{below}
use Rattle.sheet.specs.Sheet.{count_at}
use Rattle.tile.specs.Border.{on_border, border_cells, border_number, border_place}
use Rattle.tile.proofs.Borders.{place_in_lem, place_on, place_number, number_below, number_place}
use Rattle.tile_finish.specs.Finish.{comes_at}
use Rattle.tile_finish.specs.Method.{Spread}

module _ (rows cols : ℕ) (incoming : List ℕ) where
  pub comes_on : (p : ℕ) → on_border rows cols p ≡ true → comes_at rows cols incoming p ≡ count_at incoming (border_number rows cols p)
  unfolding comes_at
  comes_on p e = on_true (count_at incoming (border_number rows cols p)) e

  pub comes_off : (p : ℕ) → on_border rows cols p ≡ false → comes_at rows cols incoming p ≡ 0
  unfolding comes_at
  comes_off p e = on_false (count_at incoming (border_number rows cols p)) e

  -- at a border cell's place comes in what is told for its number
  pub comes_place : (b : ℕ) → b < border_cells rows cols → comes_at rows cols incoming (border_place rows cols b) ≡ count_at incoming b
  comes_place b l = comes_on (border_place rows cols b) (place_on rows cols b l) ∙ ap (count_at incoming) (place_number rows cols b l)

  pub spread_next : (work : List ℕ) (b : ℕ) {p v : ℕ} → b < border_cells rows cols → p ≡ border_place rows cols b → v ≡ count_at incoming b → Spread rows cols incoming work b → Spread rows cols incoming (set work p v) (b + 1)
  spread_next work b {p} {v} l at value s = record {
    long = simp length-set s.long;
    holds = λ q lq. elim (same q p) [
      | inl e ↦
          let n : border_number rows cols q ≡ b = ap (border_number rows cols) (e ∙ at) ∙ place_number rows cols b l in
          rw e (get_or-set_same work p v 0 (omega (arith, s.long, place_in_lem rows cols b l))) ∙ value ∙ sym (comes_place b l) ∙ ap (comes_at rows cols incoming) (sym (e ∙ at))
          ∙ sym (on_true (comes_at rows cols incoming q) (lt-ltb (border_number rows cols q) (b + 1) (omega arith)))
      | inr e ↦ get_or-set_other work p q v 0 e ∙ s.holds q lq ∙ elsewhere q lq (λ x. e (x ∙ sym at))
    ];
  }
    where
      elsewhere : (q : ℕ) → q < rows * cols → (q ≡ border_place rows cols b → ⊥) → on (ltb (border_number rows cols q) b) (comes_at rows cols incoming q) ≡ on (ltb (border_number rows cols q) (b + 1)) (comes_at rows cols incoming q)
      elsewhere q lq apart = elim (test (on_border rows cols q)) [
        | inr t ↦ rw (comes_off q t) (on_zero (ltb (border_number rows cols q) b) ∙ sym (on_zero (ltb (border_number rows cols q) (b + 1))))
        | inl t ↦ elim (below (border_number rows cols q) b) [
          | inl k ↦ rw (lt-ltb (border_number rows cols q) b k, lt-ltb (border_number rows cols q) (b + 1) (omega arith))
          | inr k ↦
              let other : border_number rows cols q ≡ b → ⊥ = λ x. apart (sym (number_place rows cols q lq t) ∙ ap (border_place rows cols) x) in
              rw (le-ltb (border_number rows cols q) b k, le-ltb (border_number rows cols q) (b + 1) (omega arith))
        ]
      ]

  -- once all border cells are taken
  pub spread_all : {work : List ℕ} → Spread rows cols incoming work (border_cells rows cols) → (p : ℕ) → p < rows * cols → count_at work p ≡ comes_at rows cols incoming p
  spread_all s p l = elim (test (on_border rows cols p)) [
    | inl t ↦ s.holds p l ∙ on_true (comes_at rows cols incoming p) (lt-ltb (border_number rows cols p) (border_cells rows cols) (number_below rows cols p l t))
    | inr t ↦ s.holds p l ∙ ap (λ (x : ℕ). on (ltb (border_number rows cols p) (border_cells rows cols)) x) (comes_off p t) ∙ on_zero (ltb (border_number rows cols p) (border_cells rows cols)) ∙ sym (comes_off p t)
  ]
