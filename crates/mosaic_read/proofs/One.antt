-- The promise of reading admits one outcome only: one reply, and one answer of the code.
-- Assumes nothing.
use mathlib.Core.Bool.{cond}
use mathlib.Core.List.{List, [], ◌∷◌}
use mathlib.Core.Path.{◌≡◌, refl}
use Prim.Native.Nat.{ℕ, ◌*◌}
use lib.Dec.{eqb}
use lib.ListN.{get_or}
use Rattle.std.proofs.Common.{Result, Ok, Err}
use Rattle.flow.specs.Net.{sum}
use Rattle.promise.specs.Links.{AtMostOne}
use Rattle.promise.specs.Reply.{Reply}
use Rattle.promise.specs.Reply.Reply.{reply}
use Rattle.promise.proofs.One.{is_one, unless_one, unless_all_one, one_value}
use Rattle.mosaic_read.specs.Records.{borders_of}
use Rattle.mosaic_read.specs.Read.{UnlessRecords, ReadPromise, read_reply}
use Rattle.mosaic_read.specs.declared.ReadError.{ReadError}
use Rattle.mosaic_read.specs.declared.ReadError.TheVariants.{Record, Layout}

-- the paper's number and values tell the answers apart
answer_of : Reply → Result ℕ ReadError
answer_of (reply n vs) = cond (eqb n 0) (Ok (get_or vs 0 0)) (Err (cond (eqb n 8) (Record (get_or vs 0 0)) (Layout (get_or vs 0 0))))

answer_back : (r : Result ℕ ReadError) → answer_of (read_reply r) ≡ r
unfolding answer_of
answer_back (Ok borders) = refl
answer_back (Err (Record byte)) = refl
answer_back (Err (Layout byte)) = refl

module _ (I J : ℕ) (bytes : List ℕ) where
  -- of a chain that has these refusals
  pub records_one : {R : Type 0} {Rest : R → Type 0} (refusal : Reply → R) → AtMostOne Rest → AtMostOne (UnlessRecords I J bytes refusal Rest)
  records_one refusal one = unless_all_one (unless_one one)

  pub read_one : AtMostOne (ReadPromise I J bytes)
  read_one = records_one (λ r. r) (is_one (reply 0 (sum (I * J) (borders_of bytes) ∷ [])))

  -- and of the answer itself
  pub read_answer_one : AtMostOne (λ r. ReadPromise I J bytes (read_reply r))
  read_answer_one = one_value read_reply answer_of answer_back read_one
