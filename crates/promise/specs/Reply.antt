-- A reply as paper 01's table has it: its number, and the values returned with it in the table's order.
-- Assumes nothing.
use Rattle.std.specs.Prelude.{ℕ, List}

pub data Reply : Type 0 where
  reply : ℕ → List ℕ → Reply

-- the paper's number of a reply
abbrev pub number_of : Reply → ℕ
number_of (reply n values) = n
