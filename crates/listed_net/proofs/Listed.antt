-- Laws of a net that is a list.
-- Assumes nothing.
use mathlib.Core.List.{List}
use mathlib.Core.Path.{◌≡◌}
use Prim.Native.Nat.{ℕ, ◌<◌, ◌≤◌}
use lib.ListN.{length, get_or}
use Rattle.flow.proofs.Lists.{list_out}
use Rattle.sheet.proofs.Dest.{get_or_there}
use Rattle.listed_net.specs.Net.{to_at}

-- beyond the list water goes to no cell
pub to_at_beyond : (to : List ℕ) (p : ℕ) → length to ≤ p → length to ≤ to_at to p
unfolding to_at
to_at_beyond = list_out

-- what is read at a cell
pub to_at_read : (to : List ℕ) (p : ℕ) → p < length to → get_or to p 0 ≡ to_at to p
unfolding to_at
to_at_read to p l = get_or_there to p 0 (length to) l
