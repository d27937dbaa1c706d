-- The three fields put one behind the other fill the buffer, which then holds the record.
-- Assumes nothing.
use mathlib.Core.List.{List, append-nil}
use mathlib.Core.Path.{◌≡◌, sym, ◌∙◌}
use native.Mathlib.Omega.{arith}
use Prim.Native.Nat.{ℕ}
use lib.ListN.{length}
use lib.Seq.{drop-length}
use Rattle.tile.specs.Border.{border_cells}
use Rattle.tile_bytes.specs.Bytes.{field, each, sides, border_count, border_way, way_bytes, record_bytes}
use Rattle.tile_bytes.specs.Bytes.{record_length}
use Rattle.tile_bytes.proofs.Each.{record_long}
use Rattle.writer.specs.Parts.{Writes}
use Rattle.writer.specs.declared.Writer.{Writer}
use Rattle.writer.proofs.Wrote.{writes_then}

-- what fills the whole buffer from its start is what the buffer then holds
fills : (bytes : List ℕ) (x y : Writer) → Writes bytes x y → x.at ≡ 0 → length x.out.now ≡ length bytes → y.out.now ≡ bytes
fills bytes x y w s e =
    let n : y.at ≡ length x.out.now = omega (arith, w.wrote.next_is) in
    w.wrote.out_is ∙ rw (s, n, drop-length) (append-nil bytes)

pub whole : (rows cols tile_row tile_col : ℕ) (grid counts : List ℕ) {x y z w : Writer}
    → Writes (field 1 (sides rows cols tile_row tile_col)) x y
    → Writes (field 2 (each (border_cells rows cols) (λ i. border_count rows cols counts i))) y z
    → Writes (field 3 (each (border_cells rows cols) (λ i. way_bytes (border_way rows cols grid i)))) z w
    → x.at ≡ 0 → length x.out.now ≡ record_length rows cols → w.out.now ≡ record_bytes rows cols tile_row tile_col grid counts
unfolding record_bytes
whole rows cols tile_row tile_col grid counts p q r s e = fills _ _ _ (writes_then p (writes_then q r)) s (e ∙ sym (record_long rows cols tile_row tile_col grid counts))
