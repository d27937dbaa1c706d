-- `mend::mend` meets its contract: what checking refuses, and the rest.
-- Assumes nothing.
use mathlib.Core.Path.{◌≡◌}
use native.Mathlib.Omega.{arith}
use Rattle.std.specs.Prelude.{Result, Ok, Err}
use Rattle.std.specs.Result.{IsErrAnd}
use Rattle.promise.specs.Reply.{number_of}
use Rattle.checking.specs.Check.{check_reply}
use Rattle.checking.specs.declared.CheckError.{CheckError}
use Rattle.checking.specs.declared.CheckError.TheVariants.{Shape, Length, Code, Count}
use Rattle.mend.specs.Reply.{mend_reply}
use Rattle.mend.specs.declared.error.MendError.{MendError}
use Rattle.mend.proofs.Answers.{refuses_too, goes_on}
use Rattle.mend.proofs.mend.Goals as goal

-- a refusal of checking is no reply of number 0
no_zero : (refusal : CheckError) → number_of (check_reply (Err refusal)) ≡ 0 → ⊥
no_zero Shape z = omega arith
no_zero Length z = omega arith
no_zero (Code place) z = omega arith
no_zero (Count place) z = omega arith

-- and mending says the same
same_reply : (refusal : CheckError) (r : Result (Unit {0}) MendError) → IsErrAnd r (λ e. mend_reply (Err e) ≡ check_reply (Err refusal)) → mend_reply r ≡ check_reply (Err refusal)
same_reply refusal (Ok done) e = absurd e
same_reply refusal (Err error) e = e

pub returns-in_err-check : goal.returns-in_err-check
returns-in_err-check c =
    let a = c.args in
    let refusal = c.in_err-check.field-0.0 in
    rw (same_reply refusal c.from_residual.result c.from_residual.ensures.1)
    (refuses_too a.rows a.cols a.grid.now a.counts.now a.place a.code c.in_err-check.ensures (no_zero refusal))

pub returns : goal.returns
returns c =
    let a = c.args in
    goes_on a.rows a.cols a.grid.now a.counts.now a.place a.code c.in_ok-check.ensures c.mend_cell.ensures
