-- What comes to a cell in a given number of steps, and in any number. Assumes nothing.
use mathlib.Core.Path.{◌≡◌, sym, ap, ◌∙◌}
use mathlib.Core.Logic.{inl, inr}
use Prim.Native.Nat.{ℕ, suc, ◌+◌, ◌≤◌, ◌<◌}
use native.Mathlib.Omega.{arith}
use lib.Dec.{eqb}
use Rattle.flow.specs.Net.{on, sum, steps, given, NoLoop}
use Rattle.flow.proofs.Sum.{on_ne, on_add, on_on, eqb_sym, sum_ext, sum_add, sum_none, sum_swap, sum_on, sum_delta, sum_delta_out}
use Rattle.flow.proofs.Walk.{below, steps_suc, stay_out, leaves}

-- what comes to p in k steps
unfoldable pub level : ℕ → (ℕ → ℕ) → ℕ → (ℕ → ℕ) → ℕ → ℕ
level n to k w p = sum n (λ q. on (eqb (steps to k q) p) (w q))

-- what comes to p in any number of steps: on a net without loops the solution of the count equation
unfoldable pub through : ℕ → (ℕ → ℕ) → (ℕ → ℕ) → ℕ → ℕ
through n to w p = sum n (λ k. level n to k w p)

-- what the cells r that f sends to a cell q < n hold, taken over all q that g sends to p
pub gather : (n : ℕ) (f g : ℕ → ℕ) (c : ℕ → ℕ) (p : ℕ) → ((r : ℕ) → n ≤ f r → g (f r) ≡ p → ⊥)
    → sum n (λ q. on (eqb (g q) p) (sum n (λ r. on (eqb (f r) q) (c r)))) ≡ sum n (λ r. on (eqb (g (f r)) p) (c r))
gather n f g c p far =
    sum_ext (λ q l. sym (sum_on n (eqb (g q) p) (λ r. on (eqb (f r) q) (c r)))
    ∙ sum_ext (λ r lr. on_on (eqb (g q) p) (eqb (f r) q) (c r) ∙ ap (λ b. on b (on (eqb (g q) p) (c r))) (eqb_sym (f r) q)))
    ∙ sum_swap n n (λ q r. on (eqb q (f r)) (on (eqb (g q) p) (c r)))
    ∙ sum_ext (λ r l. elim (below (f r) n) [
      | inl h ↦ sum_delta n (f r) (λ q. on (eqb (g q) p) (c r)) h
      | inr h ↦ sum_delta_out n (f r) (λ q. on (eqb (g q) p) (c r)) h ∙ sym (on_ne (g (f r)) p (c r) (far r h))
    ])

module _ (n : ℕ) (to : ℕ → ℕ) where
  -- in no step comes what is there
  pub level_zero : (c : ℕ → ℕ) (p : ℕ) → p < n → level n to 0 c p ≡ c p
  unfolding level steps
  level_zero c p l = sum_delta n p c l

  -- what comes of two weights together
  pub level_add : (k : ℕ) (w v : ℕ → ℕ) (p : ℕ) → level n to k (λ q. w q + v q) p ≡ level n to k w p + level n to k v p
  unfolding level
  level_add k w v p = simp (on_add, sum_add)

  -- and of equal weights
  pub level_ext : (k : ℕ) (w v : ℕ → ℕ) (p : ℕ) → ((q : ℕ) → q < n → w q ≡ v q) → level n to k w p ≡ level n to k v p
  unfolding level
  level_ext k w v p h = sum_ext (λ q l. rw (h q l))

  -- the same in any number of steps
  pub through_add : (w v : ℕ → ℕ) (p : ℕ) → through n to (λ q. w q + v q) p ≡ through n to w p + through n to v p
  unfolding through
  through_add w v p = simp (level_add, sum_add)

  -- what is given of a sum
  pub given_sum : (m : ℕ) (f : ℕ → ℕ → ℕ) (p : ℕ) → given n to (λ q. sum m (λ k. f k q)) p ≡ sum m (λ k. given n to (f k) p)
  unfolding given
  given_sum m f p = simp (← sum_on) (sum_swap _ _ _)

  module _ (out : (p : ℕ) → n ≤ p → n ≤ to p) where
    -- in a net without loops nothing comes in n steps
    pub level_end : NoLoop n to → (c : ℕ → ℕ) (p : ℕ) → p < n → level n to n c p ≡ 0
    unfolding level
    level_end free c p l = sum_none (λ q lq. on_ne (steps to n q) p (c q) (λ e. omega (arith, leaves n to out free q)))

    -- one step more from the cells that give
    pub level_given : (k : ℕ) (c : ℕ → ℕ) (p : ℕ) → p < n → level n to k (given n to c) p ≡ level n to (suc k) c p
    unfolding level given steps
    level_given k c p l = gather n to (steps to k) c p (λ r h e. omega (arith, stay_out n to out k (to r) h))

    -- one step more at the end
    pub given_level : (k : ℕ) (w : ℕ → ℕ) (p : ℕ) → p < n → given n to (level n to k w) p ≡ level n to (suc k) w p
    unfolding level given
    given_level k w p l = gather n (steps to k) to w p (λ r h e. omega (arith, out (steps to k r) h)) ∙ simp steps_suc
