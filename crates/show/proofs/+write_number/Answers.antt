-- `show::write_number` meets its contract: the digits before the last are those of a tenth of the number, which falls.
-- Assumes nothing.
use mathlib.Core.Path.{sym}
use Rattle.text.proofs.Decimal.{decimal_one, decimal_step}
use Rattle.writer.proofs.Wrote.{writes_is, writes_then}
use Rattle.show.proofs.+write_number.Goals as goal

pub returns-then-n-lt10 : goal.returns-then-n-lt10
returns-then-n-lt10 t c = writes_is (sym (decimal_one c.args.n c.if-n-lt10.true)) c.byte.ensures

pub returns : goal.returns
returns t c = writes_is (sym (decimal_step c.args.n c.if-n-lt10.false)) (writes_then c.write_number.ensures c.byte-2.ensures)
