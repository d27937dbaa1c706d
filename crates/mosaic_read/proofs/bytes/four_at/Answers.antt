-- `mosaic_read::bytes::four_at` meets its contract: four bytes are two numbers of two bytes.
-- Assumes nothing.
use native.Mathlib.Omega.{arith}
use mathlib.Core.List.{[], ◌∷◌}
use mathlib.Core.Path.{◌≡◌, ◌∙◌}
use Prim.Native.Nat.{ℕ, ◌+◌, ◌*◌}
use mir.Syntax.{w32}
use Rattle.std.specs.Int.{from_be_bytes}
use Rattle.mosaic_read.specs.Records.{two_at, four_at}
use Rattle.mosaic_read.proofs.bytes.four_at.Goals as goal

four_is : (a b c d : ℕ) → from_be_bytes w32 (a ∷ b ∷ c ∷ d ∷ []) ≡ (a * 256 + b) * 65536 + (c * 256 + d)
four_is a b c d = omega arith

pub returns : goal.returns
unfolding four_at two_at
returns c =
    let e : c.args.i + 2 + 1 ≡ c.args.i + 3 = omega arith in
    rw e (c.from_be_bytes.ensures ∙ four_is _ _ _ _)
