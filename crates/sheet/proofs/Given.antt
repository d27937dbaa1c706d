-- An absent cell is given nothing.
-- Assumes nothing.
use mathlib.Core.Bool.{false, true≢false}
use mathlib.Core.List.{List}
use mathlib.Core.Path.{◌≡◌, sym, ◌∙◌}
use Prim.Native.Nat.{ℕ, ◌*◌, ◌<◌}
use Rattle.flow.specs.Net.{given}
use Rattle.flow.proofs.Sum.{on_ne, sum_none}
use Rattle.sheet.specs.Sheet.{land_at, dest_of}
use Rattle.sheet.proofs.Dest.{to_land}

-- an absent cell is given nothing
pub given_absent : (rows cols : ℕ) (g : List ℕ) (w : ℕ → ℕ) (p : ℕ) → p < rows * cols → land_at g p ≡ false → given (rows * cols) (dest_of rows cols g) w p ≡ 0
unfolding given
given_absent rows cols g w p l t = sum_none (λ q h. on_ne (dest_of rows cols g q) p (w q) (λ e. true≢false (sym (to_land rows cols g q e l) ∙ t)))
