-- How long numbers and lines are.
-- Assumes nothing.
use Prim.Native.Nat.{ℕ, suc, ◌+◌, ◌*◌, ◌-◌, ◌^◌, ◌<◌, ◌≤◌}
use mathlib.Core.Path.{◌≡◌, ap}
use mathlib.Core.List.{List, [], ◌∷◌}
use native.Mathlib.Nat.{mul-suc}
use native.Mathlib.Omega.{arith}
use lib.ListN.{length, get_or, length-append}
use Rattle.text.specs.Text.{decimal, lines}
use Rattle.text.specs.Read.{end_of}
use Rattle.text.proofs.Decimal.{decimal_most}
use Rattle.text.proofs.Flat.{turn, flat, flat_cons, flat_nil, flat_rows}

pub decimal_20 : (n : ℕ) → n < 2 ^ 64 → length (decimal n) ≤ 20
decimal_20 n h = decimal_most 19 n (omega arith)

flat_most : (m c right : ℕ) (xs : List ℕ) → ((i : ℕ) → get_or xs i 0 < 10 ^ suc m) → length (flat c right xs) ≤ (m + 2) * length xs
flat_most m c right [] h = rw (flat_nil c right) (omega arith)
flat_most m c right (x ∷ xs) h =
    rw (flat_cons c right x xs) (omega (
      arith,
      mul-suc (m + 2) (length xs),
      length-append (decimal x) (end_of right ∷ flat c (turn c right) xs),
      flat_most m c (turn c right) xs (λ i. h (suc i)),
      decimal_most m x (h 0),
    ))

-- lines of numbers of at most m + 1 digits
pub lines_most : (m rows cols : ℕ) (xs : List ℕ) → 1 ≤ cols → length xs ≡ rows * cols → ((i : ℕ) → get_or xs i 0 < 10 ^ suc m) → length (lines rows cols xs) ≤ (m + 2) * (rows * cols)
lines_most m rows cols xs some long h = omega (arith, ap length (flat_rows rows cols xs some long), rw long at (flat_most m (cols - 1) (cols - 1) xs h))
