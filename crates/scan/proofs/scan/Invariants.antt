-- The loop of `scan::scan`: what it keeps.
use mathlib.Core.Path.{◌≡◌}
use Prim.Native.Nat.{◌*◌}
use Rattle.scan.specs.Grid.{CountingIn, found_in}
use Rattle.scan.proofs.scan.Given as goal

abbrev pub invariant-loop-row : goal.invariant-loop-row
invariant-loop-row l = record { counting : CountingIn l.grid l.more l.counts (l.row * l.grid.sheet.cols); outlets_found : found_in l.grid l.counts ≡ l.outlets }
