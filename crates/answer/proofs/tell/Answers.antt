-- `answer::tell` meets its contract: each answer of counting, as it is written, is what is to be told.
-- Assumes nothing.
use Rattle.answer.specs.Parts.{shown}
use Rattle.answer.proofs.Promise.{told, done_room}
use Rattle.answer.proofs.tell.Goals as goal

pub write_done-requires-clause-room : goal.write_done-requires-clause-room
write_done-requires-clause-room c = (done_room c.args.shape _ _ _ c.requires _ _ _ _ c.in-Ok.ensures).1

pub returns-in-Ok : goal.returns-in-Ok
unfolding shown
returns-in-Ok c = (_, told c.args.shape _ _ _ c.requires _ c.in-Ok.ensures, c.write_done.ensures)

pub returns-in-Err-Code : goal.returns-in-Err-Code
unfolding shown
returns-in-Err-Code c = (_, told c.args.shape _ _ _ c.requires _ (rw c.in-Err-Code.field-0-is at c.in-Err-Code.ensures), rw c.in-Err-Code.place-is at c.write_refusal.ensures)

pub returns-in-Err-Loop : goal.returns-in-Err-Loop
unfolding shown
returns-in-Err-Loop c = (_, told c.args.shape _ _ _ c.requires _ (rw c.in-Err-Loop.field-0-is at c.in-Err-Loop.ensures), rw (c.in-Err-Loop.place-is, c.in-Err-Loop.length-is) at c.write_refusal-in-Err-Loop.ensures)
