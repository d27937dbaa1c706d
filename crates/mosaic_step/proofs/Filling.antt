-- The table is filled tile by tile.
-- Assumes nothing.
use mathlib.Core.List.{List}
use mathlib.Core.Logic.{inl, inr}
use mathlib.Core.Path.{◌≡◌, ◌∙◌}
use Prim.Native.Nat.{ℕ, ◌+◌, ◌*◌, ◌<◌}
use native.Mathlib.Omega.{arith}
use lib.ListN.{length, set, length-set}
use lib.Seq.{get_or-set_same, get_or-set_other}
use Rattle.flow.proofs.Sum.{same}
use Rattle.mosaic.specs.Layout.{borders_before}
use Rattle.mosaic_read.specs.Records.{start_of, heights, widths}
use Rattle.mosaic_step.specs.Table.{Filled}

-- the first t tiles are done, the next record begins at byte o, and the number of its first border cell is `first`
pub record Reached (J : ℕ) (bytes table : List ℕ) (t o first : ℕ) : Type 0 where
  pub start : o ≡ start_of bytes t
  pub number : first ≡ borders_before J (heights bytes J) (widths bytes) t
  pub filled : Filled J bytes table t

module _ (J : ℕ) (bytes : List ℕ) where
  pub filled_none : {table : List ℕ} → length table ≡ 128 → Filled J bytes table 0
  filled_none e = record { long = e; starts = λ t l. absurd (omega arith); firsts = λ t l. absurd (omega arith) }

  -- the numbers of tile t are written
  pub filled_next : (table : List ℕ) (t : ℕ) {o first : ℕ} → t < 64 → o ≡ start_of bytes t → first ≡ borders_before J (heights bytes J) (widths bytes) t → Filled J bytes table t
      → Filled J bytes (set (set table (2 * t) o) (2 * t + 1) first) (t + 1)
  filled_next table t {o} {first} l start number s = record {
    long = length-set (set table (2 * t) o) (2 * t + 1) first ∙ length-set table (2 * t) o ∙ s.long;
    starts = λ q lq. get_or-set_other (set table (2 * t) o) (2 * t + 1) (2 * q) first 0 (λ e. omega arith) ∙ elim (same q t) [
      | inl e ↦ rw e (get_or-set_same table (2 * t) o 0 (omega (arith, s.long)) ∙ start)
      | inr e ↦ get_or-set_other table (2 * t) (2 * q) o 0 (λ k. e (omega arith)) ∙ s.starts q (omega arith)
    ];
    firsts = λ q lq. elim (same q t) [
      | inl e ↦ rw e (get_or-set_same (set table (2 * t) o) (2 * t + 1) first 0 (omega (arith, s.long, length-set table (2 * t) o)) ∙ number)
      | inr e ↦ get_or-set_other (set table (2 * t) o) (2 * t + 1) (2 * q + 1) first 0 (λ k. e (omega arith)) ∙ get_or-set_other table (2 * t) (2 * q + 1) o 0 (λ k. omega arith) ∙ s.firsts q (omega arith)
    ];
  }
