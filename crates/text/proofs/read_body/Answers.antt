-- `text::read_body` meets its contract: the numbers reached so far, in the bytes and in the grid.
-- Assumes nothing.
use mathlib.Core.Path.{◌≡◌, refl, sym, ap, ◌∙◌}
use Prim.Native.Nat.{◌+◌, ◌-◌}
use native.Mathlib.Omega.{arith}
use Rattle.std.proofs.lemmas.Nat.{mul-add-lt}
use Rattle.std.proofs.lemmas.Result.{err_from_is_err_and}
use Rattle.text.specs.Read.{end_of}
use Rattle.text.proofs.Flat.{end_apart, rights, rights_first, rights_in, rights_end, rights_next, reached_none, reached_at, reached_more, reached_stuck, reached_extra, reached_whole}
use Rattle.text.proofs.read_body.Goals as goal

pub loop-row-init : goal.loop-row-init
loop-row-init c = reached_at refl (omega arith) (reached_none _ _ _)

pub loop-col-init : goal.loop-col-init
loop-col-init c = reached_at (sym (rights_first _)) (omega arith) c.loop-row.invariant

pub read_number-requires : goal.read_number-requires
read_number-requires c = (c.loop-col.invariant.inside, rw c.end_of.ensures (end_apart _))

pub returns-in_err-number : goal.returns-in_err-number
returns-in_err-number c =
    let p = err_from_is_err_and c.from_residual.result c.from_residual.ensures.1 in
    let end = c.end_of.ensures ∙ ap end_of (sym (rights_in (c.args.shape.cols - 1) c.loop-col.col (omega arith))) in
    let told = c.in_err-number.ensures in
    let inside = mul-add-lt c.loop-row.row c.args.shape.cols c.loop-col.col c.args.shape.rows (omega arith) (omega arith) in
    rw (p.1, p.2) (reached_stuck c.args.shape.rows c.args.shape.cols c.args.shape.bounds.some_col c.loop-col.invariant _ (omega arith) told.0 (rw end at told.1))

pub loop-col-preserved : goal.loop-col-preserved
loop-col-preserved c =
    let end = c.end_of.ensures ∙ ap end_of (sym (rights_in (c.args.shape.cols - 1) c.loop-col.col (omega arith))) in
    let told = c.in_ok-number.ensures in
    let inside = mul-add-lt c.loop-row.row c.args.shape.cols c.loop-col.col c.args.shape.rows (omega arith) (omega arith) in
    rw c.keep.ensures (reached_at (rights_next _ _ (omega arith)) (omega arith) (reached_more _ _ c.loop-col.invariant (omega arith) told.0 told.1 (rw end at told.2)))

pub loop-row-preserved : goal.loop-row-preserved
loop-row-preserved c =
    let last : c.loop-col.col ≡ c.args.shape.cols - 1 + 1 = omega arith in
    reached_at (ap (rights (c.args.shape.cols - 1)) last ∙ rights_end _) (omega arith) c.loop-col.invariant

pub returns-then-at-bytes : goal.returns-then-at-bytes
returns-then-at-bytes c = reached_extra _ _ c.args.shape.bounds.some_col c.loop-row.invariant (grind arith) c.if-at-bytes.true

pub returns : goal.returns
returns c = reached_whole _ _ c.args.shape.bounds.some_col c.loop-row.invariant (grind arith) c.if-at-bytes.false
