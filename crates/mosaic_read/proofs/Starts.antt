-- Where records begin: each after 17 bytes and 7 for each border cell of the one before it, and within the bytes.
-- Assumes nothing.
use mathlib.Core.List.{List}
use mathlib.Core.Path.{◌≡◌, refl}
use Prim.Native.Nat.{ℕ, zero, suc, ◌+◌, ◌*◌, ◌≤◌}
use native.Mathlib.Omega.{arith}
use lib.ListN.{length}
use Rattle.flow.specs.Net.{sum}
use Rattle.mosaic_read.specs.Records.{start_of, borders_of}
use Rattle.mosaic_read.specs.Method.{WholeBefore}

module _ (bytes : List ℕ) where
  pub start_none : start_of bytes 0 ≡ 0
  unfolding start_of
  start_none = refl

  pub start_next : (t : ℕ) → start_of bytes (suc t) ≡ start_of bytes t + 17 + 7 * borders_of bytes t
  unfolding start_of borders_of
  start_next t = refl

  -- after t records
  pub start_sum : (t : ℕ) → start_of bytes t ≡ 17 * t + 7 * sum t (borders_of bytes)
  unfolding sum
  start_sum zero = omega (arith, start_none)
  start_sum (suc t) = omega (arith, start_next t, start_sum t)

  module _ (t : ℕ) (whole : WholeBefore bytes t) where
    -- a record begins within the bytes where those before it end there
    pub start_inside : start_of bytes t ≤ length bytes
    start_inside = go t whole
      where
        go : (t : ℕ) → WholeBefore bytes t → start_of bytes t ≤ length bytes
        go zero w = omega (arith, start_none)
        go (suc t) w = (w t (omega arith)).inside
