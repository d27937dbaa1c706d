-- What mending answers, as paper 01's table has it.
-- Assumes nothing.
use Rattle.std.specs.Prelude.{Result, Ok, Err, [], ◌∷◌}
use Rattle.promise.specs.Reply.{Reply}
use Rattle.promise.specs.Reply.Reply.{reply}
use Rattle.mend.specs.declared.error.MendError.{MendError}
use Rattle.mend.specs.declared.error.MendError.TheVariants.{Shape, Length, Code, Count, Place, NewCode, Loop}

-- the paper's number and values for each answer
abbrev pub mend_reply : Result (Unit {0}) MendError → Reply
mend_reply (Ok done) = reply 0 []
mend_reply (Err Shape) = reply 1 []
mend_reply (Err Length) = reply 2 []
mend_reply (Err (Code place)) = reply 3 (place ∷ [])
mend_reply (Err (Loop place len)) = reply 4 (place ∷ len ∷ [])
mend_reply (Err (Count place)) = reply 5 (place ∷ [])
mend_reply (Err Place) = reply 6 []
mend_reply (Err NewCode) = reply 7 []
