-- The loop of `scan::scan_row`: what it keeps.
use mathlib.Core.Path.{◌≡◌}
use Prim.Native.Nat.{◌+◌, ◌*◌}
use Rattle.scan.specs.Grid.{CountingIn, found_in}
use Rattle.scan.proofs.scan_row.Given as goal

abbrev pub invariant-loop-col : goal.invariant-loop-col
invariant-loop-col l = record { counting : CountingIn l.grid l.more l.counts (l.row * l.grid.sheet.cols + l.col); outlets_found : found_in l.grid l.counts ≡ found_in l.grid l.initial.counts + l.outlets }
