-- `answer::write_answer` meets its contract: each answer of reading, and what is told of the codes, is a case of the promise.
-- Assumes nothing.
use mathlib.Core.Path.{refl}
use Rattle.answer.proofs.Promise.{tells_malformed, tells_shape, tells_grid}
use Rattle.answer.proofs.write_answer.Goals as goal

pub returns-in-Ok : goal.returns-in-Ok
returns-in-Ok c = tells_grid c.args.text.now c.args.grid.now c.parse.new.grid c.in-Ok.shape c.in-Ok.ensures _ refl c.tell.ensures

pub returns-in-Err-Malformed : goal.returns-in-Err-Malformed
returns-in-Err-Malformed c = tells_malformed c.args.text.now c.args.grid.now c.parse.new.grid _ (rw c.in-Err-Malformed.field-0-is at c.in-Err-Malformed.ensures) c.write_refusal.ensures

pub returns-in-Err-Shape : goal.returns-in-Err-Shape
returns-in-Err-Shape c = tells_shape c.args.text.now c.args.grid.now c.parse.new.grid (rw c.in-Err-Shape.field-0-is at c.in-Err-Shape.ensures) c.write_refusal-in-Err-Shape.ensures
