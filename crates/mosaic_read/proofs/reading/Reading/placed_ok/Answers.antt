-- `mosaic_read::reading::Reading::placed_ok` meets its contract: a law of positions for each way through it.
-- Assumes nothing.
use borrow.Author.Tests.{leb-true, leb-false}
use Rattle.mosaic_read.proofs.Placed.{not_height, not_width, too_high, too_wide, placed}
use Rattle.mosaic_read.proofs.Sides.{rows_read, cols_read}
use Rattle.mosaic_read.proofs.Tests.{says_test}
use Rattle.mosaic_read.proofs.reading.Reading.placed_ok.Goals as goal

pub returns-then-border-two_at : goal.returns-then-border-two_at
returns-then-border-two_at c =
    not_height c.args.self.now.reached (rows_read c.requires) c.start_of-beginning.ensures c.two_at-3.ensures.value c.if-border-two_at.true

pub returns-then-border-two_at-2 : goal.returns-then-border-two_at-2
returns-then-border-two_at-2 c =
    not_width c.args.self.now.reached (cols_read c.requires) c.start_of-top.ensures c.two_at-4.ensures.value c.if-border-two_at-2.true

pub returns-then-self-border-gt-MOST_ROWS : goal.returns-then-self-border-gt-MOST_ROWS
returns-then-self-border-gt-MOST_ROWS c =
    too_high c.args.self.now.reached (rows_read c.requires) c.start_of-beginning.ensures c.two_at-3.ensures.value c.if-self-border-gt-MOST_ROWS.true

pub returns : goal.returns
returns c =
    says_test _
    (λ fits. placed c.args.self.now.reached c.two_at.ensures.value c.if-two_at-i.false c.two_at-2.ensures.value c.if-two_at-j.false
    (rows_read c.requires) c.start_of-beginning.ensures c.two_at-3.ensures.value c.if-border-two_at.false
    (cols_read c.requires) c.start_of-top.ensures c.two_at-4.ensures.value c.if-border-two_at-2.false
    c.if-self-border-gt-MOST_ROWS.false (leb-true _ _ fits))
    (λ over. too_wide c.args.self.now.reached (cols_read c.requires) c.start_of-top.ensures c.two_at-4.ensures.value (leb-false _ _ over))
