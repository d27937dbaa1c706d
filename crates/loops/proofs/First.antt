-- A land cell is left: the first is the smallest place on any loop.
-- Assumes nothing.
use mathlib.Core.Bool.{true}
use mathlib.Core.List.{List}
use mathlib.Core.Logic.{inl, inr}
use mathlib.Core.Path.{◌≡◌}
use Prim.Native.Nat.{ℕ, ◌*◌}
use native.Mathlib.Omega.{arith}
use lib.ListN.{length}
use Rattle.flow.specs.Net.{loop_length}
use Rattle.flow.proofs.Sum.{test}
use Rattle.loops.specs.Left.{NotLeft, left_at}
use Rattle.loops.proofs.Left.{left_says, left_not}
use Rattle.promise.specs.Links.{FirstNot}
use Rattle.scan.specs.Scan.{Counting}
use Rattle.scan.proofs.Scanning.{first_left_loop}
use Rattle.sheet.specs.Sheet.{dest_of, FirstSheetLoop, SheetOnLoop}

module _ (rows cols : ℕ) (g m c : List ℕ) (long : length g ≡ rows * cols) (s : Counting rows cols g m c (rows * cols)) {p : ℕ} (first : FirstNot (length g) (NotLeft g c) p) where
  is_left : left_at g c p ≡ true
  is_left = elim (test (left_at g c p)) [ inl e ↦ e | inr e ↦ absurd (first.here e) ]

  pub left_first : FirstSheetLoop rows cols g p (loop_length (rows * cols) (dest_of rows cols g) p)
  left_first =
      let (land, zero) = left_says g c p is_left in
      first_left_loop rows cols g m c long s p (omega (arith, first.inside)) land zero (λ q l. left_not g c q (first.before q l))

  pub left_on_loop : SheetOnLoop rows cols g p
  left_on_loop = left_first.here
