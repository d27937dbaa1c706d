-- The count equation on a net: its one solution, and what it says of loops. Assumes nothing.
use mathlib.Core.Path.{◌≡◌, refl, sym, ◌∙◌}
use Prim.Native.Nat.{ℕ, zero, suc, ◌+◌, ◌≤◌, ◌<◌}
use native.Mathlib.Omega.{arith}
use lib.Dec.{eqb}
use Rattle.flow.specs.Net.{on, sum, steps, given, Counts, OnLoop, NoLoop}
use Rattle.flow.proofs.Sum.{on_eq, on_ne, sum_ext, sum_suc, sum_first, sum_at_least, sum_change}
use Rattle.flow.proofs.Walk.{steps_suc, inside, inside_one, down_inside}
use Rattle.flow.proofs.Through.{level, through, level_zero, level_add, level_ext, level_end, level_given, given_level, given_sum}

module _ (n : ℕ) (to : ℕ → ℕ) where
  -- what q gives to the cell that its arrow ends at
  pub gives : (c : ℕ → ℕ) (p q : ℕ) → q < n → to q ≡ p → c q ≤ given n to c p
  unfolding given
  gives c p q l e = omega (arith, sum_at_least n q (λ q. on (eqb (to q) p) (c q)) l, on_eq (to q) p (c q) e)

  -- a cell with weight has a greater count than each cell whose water goes to it, so along arrows to such cells counts rise
  pub count_rises : (w c : ℕ → ℕ) → Counts n to w c → (p : ℕ) → p < n → to p < n → 0 < w (to p) → c p < c (to p)
  count_rises w c eq p l lt pos = omega (arith, eq (to p) lt, gives c (to p) p l refl)

  -- d is c with another value at t: what is given differs only at the cell that t's arrow ends at
  module _ (c d : ℕ → ℕ) (t : ℕ) (lt : t < n) (other : (q : ℕ) → q < n → (q ≡ t → ⊥) → d q ≡ c q) where
    -- there by what t held and what it holds now
    pub given_change : (p : ℕ) → given n to d p + on (eqb (to t) p) (c t) ≡ given n to c p + on (eqb (to t) p) (d t)
    unfolding given
    given_change p = sum_change lt (λ q l h. rw (other q l h))

    -- elsewhere the same is given
    pub given_still : (p : ℕ) → (to t ≡ p → ⊥) → given n to d p ≡ given n to c p
    given_still p e = omega (arith, given_change p, on_ne (to t) p (c t) e, on_ne (to t) p (d t) e)

  module _ (out : (p : ℕ) → n ≤ p → n ≤ to p) where
    -- a count is what comes in fewer than k steps, and what the cells k steps before hold
    pub telescope : (w c : ℕ → ℕ) → Counts n to w c → (p : ℕ) → p < n → (k : ℕ) → c p ≡ sum k (λ i. level n to i w p) + level n to k c p
    unfolding sum
    telescope w c eq p l zero = omega (arith, level_zero n to c p l)
    telescope w c eq p l (suc k) =
        omega (arith, telescope w c eq p l k, level_ext n to k c (λ q. w q + given n to c q) p eq, level_add n to k w (given n to c) p, level_given n to out k c p l)

    module _ (free : NoLoop n to) where
      -- a solution is `through`
      pub counts_through : (w c : ℕ → ℕ) → Counts n to w c → (p : ℕ) → p < n → c p ≡ through n to w p
      unfolding through
      counts_through w c eq p l = omega (arith, telescope w c eq p l n, level_end n to out free c p l)

      -- so there is one solution at most
      pub counts_unique : (w c d : ℕ → ℕ) → Counts n to w c → Counts n to w d → (p : ℕ) → p < n → c p ≡ d p
      counts_unique w c d hc hd p l = counts_through w c hc p l ∙ sym (counts_through w d hd p l)

      -- and `through` is one
      pub through_counts : (w : ℕ → ℕ) → Counts n to w (through n to w)
      unfolding through
      through_counts w p l =
          omega (
            arith,
            given_sum n to n (λ k. level n to k w) p,
            sum_ext {n = n} {f = λ k. given n to (level n to k w) p} {g = λ k. level n to (suc k) w p} (λ k lk. given_level n to out k w p l),
            sum_first n (λ k. level n to k w p),
            sum_suc n (λ k. level n to k w p),
            level_zero n to w p l,
            level_end n to out free w p l,
          )

    module _ (w c : ℕ → ℕ) (eq : Counts n to w c) where
      -- counts do not fall along a walk
      pub rises : (k p : ℕ) → steps to k p < n → c p ≤ c (steps to k p)
      unfolding steps
      rises zero p l = omega arith
      rises (suc k) p l =
          let lt : to p < n = inside n to out k (to p) l in
          omega (arith, rises k (to p) l, eq (to p) lt, gives c (to p) p (inside_one n to out p lt) refl)

      -- a cell on a loop has weight 0, in whatever solves the equation
      pub loop_weight : (p : ℕ) → OnLoop n to p → w p ≡ 0
      loop_weight p (l, (k, e)) =
          let s : to (steps to k p) ≡ p = sym (steps_suc to k p) ∙ e in
          let last : steps to k p < n = inside_one n to out (steps to k p) (omega arith) in
          omega (arith, rises k p last, eq p l, gives c p (steps to k p) last s)

      -- so where each cell with an arrow has weight, a solution leaves no loop
      pub weighted_no_loop : ((p : ℕ) → p < n → to p < n → 0 < w p) → NoLoop n to
      weighted_no_loop pos p l d = omega (arith, loop_weight p (l, d), pos p l (down_inside n to out p p l d))
