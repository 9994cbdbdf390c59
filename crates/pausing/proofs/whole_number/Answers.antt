-- `pausing::whole_number` meets its contract. Assumes nothing.
use borrow.Author.Tests.{eq-eqb, ne_eqb}
use Rattle.pausing.proofs.whole_number.Goals as goal

pub returns-then-first-eq0 : goal.returns-then-first-eq0
returns-then-first-eq0 c = rw (eq-eqb _ _ c.if-first-eq0.true)

pub returns-else-first-eq0 : goal.returns-else-first-eq0
returns-else-first-eq0 c = rw (ne_eqb _ _ c.if-first-eq0.false)
