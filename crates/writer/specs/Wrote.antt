-- What it means that bytes have been written into a buffer.
-- Assumes nothing.
use Rattle.std.specs.Prelude.{List, ◌++◌, ◌≡◌, ℕ, ◌+◌, ◌≤◌, length, take, drop}

-- `bytes` have been written into `out` from `at`, and nothing else has changed; the next place is `next`
pub record Wrote (bytes out : List ℕ) (at : ℕ) (after : List ℕ) (next : ℕ) : Type 0 where
  pub room : at + length bytes ≤ length out
  pub next_is : next ≡ at + length bytes
  pub out_is : after ≡ take at out ++ (bytes ++ drop next out)
