-- What is said once the scan is over, link by link of the promise.
-- Assumes nothing.
use mathlib.Core.List.{List, [], ◌∷◌}
use mathlib.Core.Path.{◌≡◌, sym, ap, ◌∙◌}
use Prim.Native.Nat.{ℕ, ◌*◌, ◌<◌}
use native.Mathlib.Omega.{arith}
use lib.ListN.{length, replicate}
use Rattle.promise.specs.Links.{FirstNot}
use Rattle.promise.specs.Links.UnlessSome.{refused_with, met_none}
use Rattle.promise.specs.Reply.Reply.{reply}
use Rattle.flow.specs.Net.{number, loop_length}
use Rattle.flow.proofs.Loop.{first_loop_free}
use Rattle.sheet.specs.Sheet.{land_at, dest_of, count_at}
use Rattle.sheet.specs.Totals.{greatest_below}
use Rattle.count.specs.Count.{Answered, ends}
use Rattle.scan.specs.Scan.{Counting, found}
use Rattle.scan.proofs.Scanning.{none_left, all_found}
use Rattle.loops.specs.Left.{NotLeft}
use Rattle.loops.proofs.First.{left_first}
use Rattle.loops.proofs.Left.{left_not}

module _ (rows cols : ℕ) (g c : List ℕ) (long : length g ≡ rows * cols) (s : Counting rows cols g [] c (rows * cols)) where
  pub answers_loop : {p : ℕ} → FirstNot (length g) (NotLeft g c) p → {len : ℕ} {d : List ℕ} → len ≡ loop_length (rows * cols) (dest_of rows cols g) p → d ≡ replicate (length c) 0
      → Answered rows cols g (ends (reply 4 (p ∷ len ∷ [])) d)
  answers_loop {p} first {len} {d} e z =
      refused_with (record { place = p; len = len }) (rw e (left_first rows cols g [] c long s first)) (ap (λ (x : List ℕ). ends (reply 4 (p ∷ len ∷ [])) x) (z ∙ ap (λ (n : ℕ). replicate n 0) s.long))

  -- none is left: all is counted
  pub answers_done : ((q : ℕ) → q < length g → NotLeft g c q) → {land out greatest : ℕ} → land ≡ number (length g) (land_at g) → found rows cols g c ≡ out
      → greatest ≡ greatest_below (length c) (count_at c) → Answered rows cols g (ends (reply 0 (land ∷ out ∷ greatest ∷ [])) c)
  answers_done none {land} {out} {greatest} a b d =
      let (free, counts) = none_left rows cols g [] c long s (λ p l. left_not g c p (none p (omega arith))) in
      met_none (λ v first. first_loop_free free first) record {
        long = s.long;
        equation = counts;
        said_is = rw (a, sym b ∙ all_found rows cols g [] c (λ p l. left_not g c p (none p (omega arith))), d, long, s.long);
      }
