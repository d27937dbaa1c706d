-- Laws of fields that have been written, and of pieces one behind the other.
-- Assumes nothing.
use mathlib.Core.List.{List, ◌∷◌, ◌++◌}
use mathlib.Core.Path.{◌≡◌, sym, ap}
use Prim.Native.Nat.{ℕ, ◌+◌, ◌≤◌}
use lib.ListN.{length}
use Rattle.tile_bytes.specs.Bytes.{two, field, each}
use Rattle.tile_bytes.proofs.Each.{each_none, each_next}
use Rattle.writer.specs.Parts.{Writes}
use Rattle.writer.specs.declared.Writer.{Writer}
use Rattle.writer.proofs.Wrote.{writes_none, writes_then, writes_is}

-- a field: its tag and length, and its contents
pub puts_field : {tag n : ℕ} {contents : List ℕ} {x y z : Writer} → n ≡ length contents → Writes (tag ∷ two n) x y → Writes contents y z → Writes (field tag contents) x z
puts_field {tag} {n} {contents} e p q = writes_is (ap (λ (k : ℕ). (tag ∷ two k) ++ contents) e) (writes_then p q)

-- pieces one behind the other: none, and one more
pub puts_start : (f : ℕ → List ℕ) (w : Writer) → w.at ≤ length w.out.now → Writes (each 0 f) w w
puts_start f w h = writes_is (sym (each_none f)) (writes_none w h)

pub puts_more : {x y z : Writer} (f : ℕ → List ℕ) (n : ℕ) → Writes (each n f) x y → Writes (f n) y z → Writes (each (n + 1) f) x z
puts_more f n p q = writes_is (sym (each_next f n)) (writes_then p q)
