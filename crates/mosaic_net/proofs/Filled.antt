-- Numbers that are written one after the other: none yet, one more, all.
-- Assumes nothing.
use mathlib.Core.List.{List}
use mathlib.Core.Logic.{inl, inr}
use mathlib.Core.Path.{◌≡◌, sym, ap, ◌∙◌}
use Prim.Native.Nat.{ℕ, ◌+◌, ◌<◌}
use native.Mathlib.Omega.{arith}
use lib.ListN.{length, set, length-set}
use lib.Seq.{get_or-set_same, get_or-set_other}
use Rattle.flow.proofs.Sum.{same}
use Rattle.sheet.specs.Sheet.{count_at}
use Rattle.mosaic_net.specs.Method.{Filled}

module _ (M : ℕ) (f : ℕ → ℕ) where
  pub filled_none : {list : List ℕ} → length list ≡ M → Filled M f list 0
  filled_none e = record {
    long = e;
    holds = λ h l. absurd (omega arith);
  }

  -- so far told by another number
  pub filled_at : {list : List ℕ} {k m : ℕ} → k ≡ m → Filled M f list k → Filled M f list m
  filled_at e s = rw (sym e) s

  -- the next one
  pub filled_next : (list : List ℕ) (k x : ℕ) → k < M → x ≡ f k → Filled M f list k → Filled M f (set list k x) (k + 1)
  filled_next list k x l e s = record {
    long = simp length-set s.long;
    holds = λ h lh. elim (same h k) [
      | inl d ↦ ap (count_at (set list k x)) d ∙ get_or-set_same list k x 0 (omega (arith, s.long)) ∙ e ∙ ap f (sym d)
      | inr d ↦ get_or-set_other list k h x 0 d ∙ s.holds h (omega arith)
    ];
  }
