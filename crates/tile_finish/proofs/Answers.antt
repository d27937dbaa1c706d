-- What is said once the scan of a tile is over, link by link of the promise.
-- Assumes nothing.
use mathlib.Core.List.{List, [], ◌∷◌}
use mathlib.Core.Path.{◌≡◌, refl}
use Prim.Native.Nat.{ℕ, ◌+◌, ◌*◌, ◌<◌}
use native.Mathlib.Omega.{arith}
use lib.ListN.{length, replicate}
use Rattle.scan.specs.Scan.{Counting, weight}
use Rattle.loops.specs.Left.{NotLeft}
use Rattle.loops.proofs.First.{left_first}
use Rattle.loops.proofs.Left.{left_not}
use Rattle.scan.proofs.Scanning.{none_left}
use Rattle.flow.specs.Net.{loop_length}
use Rattle.flow.proofs.Loop.{first_loop_free}
use Rattle.flow.proofs.Totals.{counts_weights}
use Rattle.promise.specs.Links.{FirstNot}
use Rattle.promise.specs.Links.UnlessSome.{refused_with, met_none}
use Rattle.promise.specs.Reply.Reply.{reply}
use Rattle.sheet.specs.Sheet.{dest_of, unit, count_at}
use Rattle.tile.specs.Border.{border_cells}
use Rattle.tile_finish.specs.Finish.{Answered, IncomingOk, comes_at, ends}
use Rattle.tile_finish.specs.Method.{Spread}
use Rattle.tile_finish.proofs.Weights.{weight_is}

module _ (rows cols : ℕ) (g incoming work c : List ℕ) (long : length g ≡ rows * cols) (s : Counting rows cols g work c (rows * cols)) where
  -- a land cell is left: the first is the answer
  pub answers_loop : {p len : ℕ} {d e : List ℕ} → FirstNot (length g) (NotLeft g c) p → len ≡ loop_length (rows * cols) (dest_of rows cols g) p
      → d ≡ replicate (rows * cols) 0 → e ≡ replicate (rows * cols) 0 → Answered rows cols g incoming (ends (reply 4 (p ∷ len ∷ [])) d e)
  answers_loop {p} {len} {d} {e} first l zd ze =
      refused_with (record { place = p; len = len }) (rw l (left_first rows cols g work c long s first)) (rw (zd, ze) refl)

  -- none is left: all is counted
  pub answers_done : (ok : (b : ℕ) → b < border_cells rows cols → IncomingOk rows cols g incoming b) → Spread rows cols incoming work (border_cells rows cols)
      → ((q : ℕ) → q < length g → NotLeft g c q) → {e : List ℕ} → e ≡ replicate (rows * cols) 0 → Answered rows cols g incoming (ends (reply 0 []) c e)
  answers_done ok laid none {e} z =
      let (free, counts) = none_left rows cols g work c long s (λ p l. left_not g c p (none p (omega arith))) in
      met_none (λ v first. first_loop_free free first) record {
        long = s.long;
        equation = counts_weights (rows * cols) (dest_of rows cols g) (weight g work) (λ p. unit g p + comes_at rows cols incoming p) (count_at c) (weight_is rows cols g incoming ok work laid) counts;
        work_clear = z;
        said_is = refl;
      }
