-- Lists strung one behind the other: where each begins, and what is read there.
-- Assumes nothing.
use mathlib.Core.List.{List, ◌++◌}
use mathlib.Core.Logic.{inl, inr}
use mathlib.Core.Path.{◌≡◌, refl, sym, ap, ◌∙◌}
use Prim.Native.Nat.{ℕ, zero, suc, ◌+◌, ◌<◌}
use native.Mathlib.Omega.{arith}
use lib.ListN.{length, get_or, length-append, get_or-append}
use lib.Seq.{get_or-append-add}
use Rattle.flow.specs.Net.{sum}
use Rattle.flow.proofs.Sum.{same}
use Rattle.mosaic.proofs.Pieces.{piece_below}
use Rattle.tile_bytes.specs.Bytes.{each}

module _ (f : ℕ → List ℕ) where
  pub strung_long : (n : ℕ) → length (each n f) ≡ sum n (λ u. length (f u))
  unfolding each sum
  strung_long zero = refl
  strung_long (suc n) = length-append (each n f) (f n) ∙ ap (λ (x : ℕ). x + length (f n)) (strung_long n)

  pub strung_at : (n t i : ℕ) → t < n → i < length (f t) → get_or (each n f) (sum t (λ u. length (f u)) + i) 0 ≡ get_or (f t) i 0
  unfolding each
  strung_at zero t i l h = absurd (omega arith)
  strung_at (suc n) t i l h = elim (same t n) [
    | inl e ↦ ap (λ (k : ℕ). get_or (each n f ++ f n) k 0) (let k : sum t (λ u. length (f u)) + i ≡ length (each n f) + i = omega (arith, strung_long n, ap (λ (x : ℕ). sum x (λ u. length (f u))) e) in k)
        ∙ get_or-append-add (each n f) (f n) i 0 ∙ ap (λ (x : ℕ). get_or (f x) i 0) (sym e)
    | inr e ↦ get_or-append (each n f) (f n) 0 (sum t (λ u. length (f u)) + i) (omega (arith, strung_long n, piece_below (λ u. length (f u)) n t i (omega arith) h))
        ∙ strung_at n t i (omega arith) h
  ]
