-- The promise of checking admits one outcome only: one reply, and one answer of the code.
-- Assumes nothing.
use mathlib.Core.Bool.{cond}
use mathlib.Core.List.{List, []}
use mathlib.Core.Path.{◌≡◌, refl}
use Prim.Native.Nat.{ℕ}
use lib.Dec.{eqb}
use lib.ListN.{get_or}
use Rattle.promise.specs.Links.{AtMostOne}
use Rattle.promise.specs.Reply.{Reply}
use Rattle.promise.specs.Reply.Reply.{reply}
use Rattle.promise.proofs.One.{is_one, unless_one, unless_all_one, one_value}
use Rattle.checking.specs.Check.{CheckPromise, check_reply}
use Rattle.std.specs.Prelude.{Result, Ok, Err}
use Rattle.checking.specs.declared.CheckError.{CheckError}
use Rattle.checking.specs.declared.CheckError.TheVariants.{Shape, Length, Code, Count}

-- the paper's number and values tell the answers apart
answer_of : Reply → Result (Unit {0}) CheckError
answer_of (reply n vs) =
    cond (eqb n 0) (Ok tt) (Err (cond (eqb n 1) Shape (cond (eqb n 2) Length (cond (eqb n 3) (Code (get_or vs 0 0)) (Count (get_or vs 0 0))))))

answer_back : (r : Result (Unit {0}) CheckError) → answer_of (check_reply r) ≡ r
unfolding answer_of
answer_back (Ok tt) = refl
answer_back (Err Shape) = refl
answer_back (Err Length) = refl
answer_back (Err (Code p)) = refl
answer_back (Err (Count p)) = refl

module _ (rows cols : ℕ) (grid counts : List ℕ) where
  pub check_one : AtMostOne (CheckPromise rows cols grid counts)
  check_one = unless_one (unless_one (unless_all_one (unless_all_one (is_one (reply 0 [])))))

  -- and of the answer itself
  pub check_answer_one : AtMostOne (λ r. CheckPromise rows cols grid counts (check_reply r))
  check_answer_one = one_value check_reply answer_of answer_back check_one
