-- Laws of the items of a line: one more of them, the room that they need, and the paper's lines of them.
-- Assumes nothing.
use Prim.Native.Nat.{ℕ, ◌+◌, ◌<◌, ◌≤◌}
use mathlib.Core.Path.{◌≡◌, ap}
use mathlib.Core.List.{List, ◌++◌, append-nil}
use native.Mathlib.Omega.{arith}
use lib.ListN.{length, get_or, take, length-append}
use Rattle.std.proofs.lemmas.Grind.{flat_map-append}
use Rattle.std.proofs.lemmas.List.{take_more}
use Rattle.std.proofs.lemmas.List.Folds.{length-flat_map-take}
use Rattle.text.specs.Text.{decimal}
use Rattle.writer.specs.declared.Writer.{Writer}
use Rattle.writer.specs.Parts.{Room, Writes}
use Rattle.writer.proofs.Wrote.{writes_long}
use Rattle.show.specs.Parts.{items}
use Rattle.show.specs.declared.Item.{Item}

module _ (xs : List Item) (i : ℕ) (d : Item) (h : i < length xs) where
  abbrev item : Item
  item = get_or xs i d

  pub items_more : items (take (i + 1) xs) ≡ items (take i xs) ++ (item.0.now ++ decimal item.1)
  items_more = rw (take_more xs i d h, flat_map-append) (ap (λ (s : List ℕ). items (take i xs) ++ s) (append-nil (item.0.now ++ decimal item.1)))

  module _ {x y : Writer} (w : Writes (items (take i xs)) x y) (room : Room (length (items xs) + 1) x) where
    fits : y.at + (length item.0.now + length (decimal item.1)) ≤ length y.out.now
    fits = omega (arith, length-flat_map-take (λ (i : Item). i.0.now ++ decimal i.1) xs i d h, length-append item.0.now (decimal item.1), writes_long w, w.wrote.next_is)

    pub word_room : Room (length item.0.now) y
    word_room = omega (arith, fits)

    pub number_room : {z : Writer} → Writes item.0.now y z → Room (length (decimal item.1)) z
    number_room v = omega (arith, fits, writes_long v, v.wrote.next_is)
