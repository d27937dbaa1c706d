-- Finishing a tile: its counts when more comes in at some cells, from its counts without. Assumes nothing.
use mathlib.Core.Path.{◌≡◌, sym, ap, ◌∙◌}
use mathlib.Core.Bool.{◌||◌}
use mathlib.Core.Logic.{◌↔◌}
use Prim.Native.Nat.{ℕ, ◌+◌, ◌≤◌, ◌<◌}
use native.Mathlib.Omega.{arith}
use lib.Dec.{eqb}
use Rattle.flow.specs.Net.{on, sum, given, Counts, NoLoop, downb}
use Rattle.flow.proofs.Sum.{sum_ext}
use Rattle.flow.proofs.Through.{through, through_add}
use Rattle.flow.proofs.Count.{counts_through, through_counts}
use Rattle.flow.proofs.Passes.{through_passes}

-- equal counts give the same
pub given_same : (n : ℕ) (to c d : ℕ → ℕ) (p : ℕ) → ((q : ℕ) → q < n → c q ≡ d q) → given n to c p ≡ given n to d p
unfolding given
given_same n to c d p e = sum_ext (λ q l. ap (on (eqb (to q) p)) (e q l))

-- the equation, for counts that are the same below n
pub counts_same : (n : ℕ) (to w c d : ℕ → ℕ) → ((p : ℕ) → p < n → c p ≡ d p) → Counts n to w c → Counts n to w d
counts_same n to w c d e h p l = omega (arith, e p l, h p l, given_same n to c d p e)

module _ (n : ℕ) (to : ℕ → ℕ) (out : (p : ℕ) → n ≤ p → n ≤ to p) (free : NoLoop n to) (w v d : ℕ → ℕ) (hd : Counts n to w d) where
  -- v more at each cell is v more at it and at each cell downstream
  finish_value : (p : ℕ) → p < n → through n to (λ q. w q + v q) p ≡ d p + sum n (λ q. on (eqb q p || downb n to q p) (v q))
  finish_value p l = omega (arith, through_add n to w v p, counts_through n to out free w d hd p l, through_passes n to out free v p l)

  -- finishing as it is told: to each cell's count, the v of all cells at it or upstream of it
  pub finish_is : (f : ℕ → ℕ) → Counts n to (λ q. w q + v q) f ↔ ((p : ℕ) → p < n → f p ≡ d p + sum n (λ q. on (eqb q p || downb n to q p) (v q)))
  finish_is f = (
    λ h p l. counts_through n to out free (λ q. w q + v q) f h p l ∙ finish_value p l,
    λ h. counts_same n to (λ q. w q + v q) (through n to (λ q. w q + v q)) f (λ p l. finish_value p l ∙ sym (h p l)) (through_counts n to out free (λ q. w q + v q)),
  )
