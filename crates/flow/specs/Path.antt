-- Where a cell's water ends: the cells that it passes are the cell's path, and the path of each cell of a net without loops has a last cell.
-- Assumes nothing.
use Rattle.std.specs.Prelude.{◌≡◌, cond, ℕ, zero, suc, ◌≤◌, ◌<◌, ltb}
use Rattle.flow.specs.Net.{steps}

-- p's path ends at e: following arrows from p comes to the cell e, and e's water goes to no cell
abbrev pub End : ℕ → (ℕ → ℕ) → ℕ → ℕ → Type 0
End n to p e = (i : ℕ) × (steps to i p ≡ e) × (e < n) × (n ≤ to e)

-- the last cell met when at most k arrows are followed from p, and none that goes to no cell
unfoldable pub last_in : ℕ → (ℕ → ℕ) → ℕ → ℕ → ℕ
last_in n to zero p = p
last_in n to (suc k) p = let r = last_in n to k (to p) in cond (ltb (to p) n) r p

-- the last cell of p's path: on a net of n cells without loops it is met within n arrows (`last_end` and `last_is`, proofs/Last.antt: the path ends there, and
-- at no other cell)
unfoldable pub last : ℕ → (ℕ → ℕ) → ℕ → ℕ
last n to p = last_in n to n p
