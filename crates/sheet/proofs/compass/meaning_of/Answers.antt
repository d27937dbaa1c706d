-- `sheet::compass::meaning_of` meets its contract: THE CHECK of the constant table against the printed one. At each code written out the
-- definition computes to the line of `STEPS`, or to absent; every other number is bad.
-- Assumes nothing.
use mathlib.Core.Path.{◌≡◌}
use Rattle.sheet.specs.Compass.{step_at, step_of, line_of, is_arrow, is_absent, meaning_of}
use Rattle.sheet.proofs.Table.{below8}
use Rattle.sheet.proofs.Meaning.{bad_meaning}
use native.Mathlib.Omega.{arith}
use Rattle.sheet.proofs.compass.meaning_of.Goals as goal

pub returns-in-1 : goal.returns-in-1
unfolding meaning_of is_arrow is_absent step_of line_of
returns-in-1 c = rw c.in-1.is

pub returns-in-2 : goal.returns-in-2
unfolding meaning_of is_arrow is_absent step_of line_of
returns-in-2 c = rw c.in-2.is

pub returns-in-4 : goal.returns-in-4
unfolding meaning_of is_arrow is_absent step_of line_of
returns-in-4 c = rw c.in-4.is

pub returns-in-8 : goal.returns-in-8
unfolding meaning_of is_arrow is_absent step_of line_of
returns-in-8 c = rw c.in-8.is

pub returns-in-16 : goal.returns-in-16
unfolding meaning_of is_arrow is_absent step_of line_of
returns-in-16 c = rw c.in-16.is

pub returns-in-32 : goal.returns-in-32
unfolding meaning_of is_arrow is_absent step_of line_of
returns-in-32 c = rw c.in-32.is

pub returns-in-64 : goal.returns-in-64
unfolding meaning_of is_arrow is_absent step_of line_of
returns-in-64 c = rw c.in-64.is

pub returns-in-128 : goal.returns-in-128
unfolding meaning_of is_arrow is_absent step_of line_of
returns-in-128 c = rw c.in-128.is

pub returns-in-0 : goal.returns-in-0
unfolding meaning_of is_arrow is_absent step_of line_of
returns-in-0 c = rw c.in-0.is

pub returns-in-255 : goal.returns-in-255
unfolding meaning_of is_arrow is_absent step_of line_of
returns-in-255 c = rw c.in-255.is

pub returns-in_default : goal.returns-in_default
unfolding step_at line_of
returns-in_default c =
    bad_meaning c.args.code
    (below8 (λ k. (step_at k).0 ≡ c.args.code → ⊥) (λ e. omega arith) (λ e. omega arith) (λ e. omega arith) (λ e. omega arith) (λ e. omega arith) (λ e. omega arith) (λ e. omega arith) (λ e. omega arith))
    (omega arith) (omega arith)
