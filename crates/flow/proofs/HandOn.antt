-- Counting in an order in which each cell comes after its givers: a cell that is done has handed its count on to the cell that its water
-- goes to; the others are open. Assumes nothing.
use mathlib.Core.Path.{◌≡◌, refl, sym, ap, ◌∙◌}
use mathlib.Core.Bool.{Bool, true, false, not, ◌&&◌, true≢false}
use mathlib.Core.Logic.{inl, inr, ◌↔◌}
use Prim.Native.Nat.{ℕ, ◌+◌, ◌≤◌, ◌<◌}
use native.Mathlib.Omega.{arith}
use lib.Dec.{eqb}
use borrow.Author.Tests.{eqb-true, eq-eqb}
use Rattle.flow.specs.Net.{on, sum, number, given, Counts, OnLoop, NoLoop, loop_length, FirstLoop}
use Rattle.flow.proofs.Sum.{test, on_false, sum_ext, sum_ones, sum_none, sum_mono, sum_at_least}
use Rattle.flow.proofs.Bound.{on_le}
use Rattle.flow.proofs.Cut.{incoming}
use Rattle.flow.proofs.Test.{first_passing}
use Rattle.flow.proofs.Back.{back_loop}

-- ---- what holds half-way

-- c p is p's weight and what the cells that are done gave it
abbrev pub Holds : ℕ → (ℕ → ℕ) → (ℕ → ℕ) → (ℕ → ℕ) → (ℕ → Bool) → Type 0
Holds n to w c done = (p : ℕ) → p < n → c p ≡ w p + incoming n to done c p

-- the givers of a cell that is done are done
abbrev pub GiversDone : ℕ → (ℕ → ℕ) → (ℕ → Bool) → Type 0
GiversDone n to done = (p q : ℕ) → p < n → q < n → to q ≡ p → done p ≡ true → done q ≡ true

-- a cell on a loop is open
abbrev pub LoopsOpen : ℕ → (ℕ → ℕ) → (ℕ → Bool) → Type 0
LoopsOpen n to done = (p : ℕ) → OnLoop n to p → done p ≡ false

-- how many cells are open
unfoldable pub open_cells : ℕ → (ℕ → Bool) → ℕ
open_cells n done = number n (λ q. not (done q))

-- how many givers of p are open
unfoldable pub open_givers : ℕ → (ℕ → ℕ) → (ℕ → Bool) → ℕ → ℕ
open_givers n to done p = number n (λ q. not (done q) && eqb (to q) p)

-- what the open cells hold together
unfoldable pub open_sum : ℕ → (ℕ → ℕ) → (ℕ → Bool) → ℕ
open_sum n c done = sum n (λ q. on (not (done q)) (c q))

-- ---- the start and the end

-- where nothing is done, c is the weight
pub none_done : (n : ℕ) (to w : ℕ → ℕ) (done : ℕ → Bool) → ((p : ℕ) → p < n → done p ≡ false) → Holds n to w w done
unfolding incoming
none_done n to w done h p l =
    let none : incoming n to done w p ≡ 0 = sum_none (λ q lq. rw (h q lq)) in
    omega arith

-- where all is done, the counts are found
pub all_done : (n : ℕ) (to w c : ℕ → ℕ) (done : ℕ → Bool) → Holds n to w c done → ((p : ℕ) → p < n → done p ≡ true) → Counts n to w c
unfolding incoming given
all_done n to w c done s h p l = s p l ∙ ap (λ (x : ℕ). w p + x) (sum_ext (λ q lq. rw (h q lq)))

-- ---- open givers

open_and : (a b : Bool) → not a && b ≡ true → (a ≡ false) × (b ≡ true)
open_and true b e = absurd (true≢false (sym e))
open_and false b e = (refl, e)

module _ (n : ℕ) (to : ℕ → ℕ) (done : ℕ → Bool) (p : ℕ) where
  open_one : (q : ℕ) → done q ≡ false → to q ≡ p → on (not (done q) && eqb (to q) p) 1 ≡ 1
  open_one q o e = rw (o, eq-eqb (to q) p e)

  -- no cell has more open givers than there are cells
  pub open_givers_le : open_givers n to done p ≤ n
  unfolding open_givers
  open_givers_le =
      let m : open_givers n to done p ≤ sum n (λ q. 1) = sum_mono (λ q l. on_le (not (done q) && eqb (to q) p) 1) in
      omega (arith, sum_ones n)

  -- where none is open, each is done
  pub open_givers_none : open_givers n to done p ≡ 0 → (q : ℕ) → q < n → to q ≡ p → done q ≡ true
  unfolding open_givers
  open_givers_none e q l g = elim (test (done q)) [
    | inl t ↦ t
    | inr t ↦ absurd (omega (arith, sum_at_least n q (λ q. on (not (done q) && eqb (to q) p) 1) l, open_one q t g))
  ]

  -- and else some giver is open
  pub open_givers_some : (open_givers n to done p ≡ 0 → ⊥) → (q : ℕ) × (q < n) × (to q ≡ p) × (done q ≡ false)
  unfolding open_givers
  open_givers_some e = elim (first_passing n (λ q. not (done q) && eqb (to q) p)) [
    | inl off ↦ absurd (e (sum_none (λ q l. on_false 1 (off q l))))
    | inr s ↦ (let (o, g) = open_and (done s.0) (eqb (to s.0) p) s.2 in (s.0, s.1, eqb-true (to s.0) p g, o))
  ]

-- ---- no more can be handed on

-- where each open cell has an open giver, the open cells are those on loops
module _ (n : ℕ) (to : ℕ → ℕ) (done : ℕ → Bool) (loops : LoopsOpen n to done) (stuck : (p : ℕ) → p < n → done p ≡ false → open_givers n to done p ≡ 0 → ⊥) where
  pub open_iff_loop : (p : ℕ) → p < n → (done p ≡ false) ↔ OnLoop n to p
  open_iff_loop p l = (
    λ o. back_loop n to (λ q. done q ≡ false) (λ q lq oq. open_givers_some n to done q (stuck q lq oq)) p l o,
    loops p,
  )

  -- none open: no loop
  pub all_done_free : ((p : ℕ) → p < n → done p ≡ true) → NoLoop n to
  all_done_free all p l d = true≢false (sym (all p l) ∙ loops p (l, d))

  -- the first open cell is the first on a loop
  pub first_open : (p : ℕ) → p < n → done p ≡ false → ((q : ℕ) → q < p → done q ≡ true) → FirstLoop n to p (loop_length n to p)
  first_open p l o all = record {
    here = (open_iff_loop p l).0 o;
    smallest = λ q lq x. true≢false (sym (all q lq) ∙ loops q x);
    length = refl;
  }
