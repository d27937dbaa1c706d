-- What a test that was made says of what it tests.
-- Assumes nothing.
use mathlib.Core.Bool.{Bool, true, false}
use mathlib.Core.Path.{◌≡◌, refl, subst}
use Prim.Native.Nat.{ℕ, ◌<◌}
use native.Mathlib.Omega.{arith}
use lib.ListN.{length, get_or}
use Rattle.std.specs.Bool.{MatchBool}
use Rattle.std.specs.List.{range_with_len, AllWithin, HoldsAt}
use Rattle.std.proofs.lemmas.List.FromFn.{get_or-range_with_len, length-range_with_len}
use Rattle.mosaic_read.specs.Method.{Says}

module _ {P : Type 0} where
  pub says_test : (b : Bool) → (b ≡ true → P) → (b ≡ false → P → ⊥) → Says P b
  says_test true holds fails = holds refl
  says_test false holds fails = fails refl

-- a test of each number below n
at_place : (P : ℕ → Type 0) (n b : ℕ) → b < n → P (get_or (range_with_len 0 n) b 0) → P b
at_place P n b l =
    let e : get_or (range_with_len 0 n) b 0 ≡ b = omega (arith, get_or-range_with_len 0 n b 0 l) in
    subst P e

module _ (n : ℕ) (Yes No : ℕ → Type 0) {P : Type 0} (each : ((b : ℕ) → b < n → Yes b) → P) (some : (b : ℕ) → b < n → No b → P → ⊥) where
  pub each_says : (r : Bool)
      → MatchBool r (AllWithin Yes (range_with_len 0 n) 0 (length (range_with_len 0 n))) ((k : ℕ) × (k < length (range_with_len 0 n)) × HoldsAt No (range_with_len 0 n) k)
      → Says P r
  each_says true told = each (λ b l. at_place Yes n b l (told b 0 (omega arith) (rw length-range_with_len l)))
  each_says false (k, l, fails) =
      let below : k < n = rw length-range_with_len at l in
      some k below (at_place No n k below (fails 0))
