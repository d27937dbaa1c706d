-- Laws of `each`: pieces of one length, one after the other; and how long a record is.
-- Assumes nothing.
use mathlib.Core.List.{List, [], ◌∷◌, ◌++◌}
use mathlib.Core.Logic.{inl, inr}
use mathlib.Core.Path.{◌≡◌, refl, sym, ap, ◌∙◌}
use Prim.Native.Nat.{ℕ, zero, suc, ◌+◌, ◌*◌, ◌<◌, ◌≤◌}
use native.Mathlib.Nat.{mul-suc, mul-le-mul_left}
use native.Mathlib.Numerals.{add-one}
use native.Mathlib.Omega.{arith}
use lib.ListN.{length, get_or, length-append, get_or-append}
use lib.Seq.{get_or-append-add}
use Rattle.flow.proofs.Walk.{below}
use Rattle.tile.specs.Border.{border_cells}
use Rattle.tile_bytes.specs.Bytes.{two, each, border_count, border_way, way_bytes, record_bytes}
use Rattle.tile_bytes.specs.Bytes.{record_length}

module _ (f : ℕ → List ℕ) where
  pub each_none : each 0 f ≡ []
  unfolding each
  each_none = refl

  pub each_next : (n : ℕ) → each (n + 1) f ≡ each n f ++ f n
  unfolding each
  each_next n = rw (add-one n) refl

  module _ (k : ℕ) (long : (b : ℕ) → length (f b) ≡ k) where
    pub each_long : (n : ℕ) → length (each n f) ≡ k * n
    unfolding each
    each_long zero = omega arith
    each_long (suc n) = omega (arith, length-append (each n f) (f n), each_long n, long n, mul-suc k n)

    -- element j of piece b
    pub each_read : (n b j : ℕ) → b < n → j < k → get_or (each n f) (k * b + j) 0 ≡ get_or (f b) j 0
    unfolding each
    each_read zero b j l h = absurd (omega arith)
    each_read (suc n) b j l h =
        elim (below b n) [
          | inl m ↦ get_or-append (each n f) (f n) 0 (k * b + j) (omega (arith, each_long n, mul-suc k b, mul-le-mul_left k (let s : suc b ≤ n = m in s))) ∙ each_read n b j m h
          | inr m ↦ (let e : b ≡ n = omega arith in
              ap (λ (i : ℕ). get_or (each n f ++ f n) i 0) (let s : k * b + j ≡ length (each n f) + j = omega (arith, each_long n, ap (λ (x : ℕ). k * x) e) in s)
              ∙ get_or-append-add (each n f) (f n) j 0
              ∙ ap (λ (x : ℕ). get_or (f x) j 0) (sym e))
        ]

-- the contents of field 2 and of field 3
pub counts_long : (rows cols : ℕ) (counts : List ℕ) (n : ℕ) → length (each n (λ b. border_count rows cols counts b)) ≡ 4 * n
counts_long rows cols counts n = each_long (λ b. border_count rows cols counts b) 4 (λ b. refl) n

pub ways_long : (rows cols : ℕ) (grid : List ℕ) (n : ℕ) → length (each n (λ b. way_bytes (border_way rows cols grid b))) ≡ 3 * n
ways_long rows cols grid n = each_long (λ b. way_bytes (border_way rows cols grid b)) 3 (λ b. refl) n

-- a record of B border cells has 17 + 7B bytes
pub record_long : (rows cols tile_row tile_col : ℕ) (grid counts : List ℕ) → length (record_bytes rows cols tile_row tile_col grid counts) ≡ record_length rows cols
unfolding record_bytes
record_long rows cols tile_row tile_col grid counts =
    omega (
      arith,
      length-append (each (border_cells rows cols) (λ b. border_count rows cols counts b)) (3 ∷ two (length (each (border_cells rows cols) (λ b. way_bytes (border_way rows cols grid b)))) ++ each (border_cells rows cols) (λ b. way_bytes (border_way rows cols grid b))),
      counts_long rows cols counts (border_cells rows cols),
      ways_long rows cols grid (border_cells rows cols),
    )
