-- `pausing::paused_after` meets its contract. Assumes nothing.
use borrow.Author.Tests.{lt-ltb, le-ltb}
use Rattle.pausing.proofs.paused_after.Goals as goal

pub returns-then-count-pause : goal.returns-then-count-pause
returns-then-count-pause c = rw (lt-ltb _ _ c.if-count-pause.true)

pub returns-else-count-pause : goal.returns-else-count-pause
returns-else-count-pause c = rw (le-ltb _ _ c.if-count-pause.false)
