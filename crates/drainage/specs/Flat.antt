-- A reply as C and Rust see it: the paper's number and up to six values, 0 where there is none.
-- Assumes nothing.
use Rattle.std.specs.Prelude.{get_or}
use Rattle.promise.specs.Reply.{Reply}
use Rattle.promise.specs.Reply.Reply.{reply}
use Rattle.drainage.specs.declared.reply.Flat.{Flat}

abbrev pub flat : Reply → Flat
flat (reply n vs) = record {
  number = n;
  value0 = get_or vs 0 0;
  value1 = get_or vs 1 0;
  value2 = get_or vs 2 0;
  value3 = get_or vs 3 0;
  value4 = get_or vs 4 0;
  value5 = get_or vs 5 0;
}
