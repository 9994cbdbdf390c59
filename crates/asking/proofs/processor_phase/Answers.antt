-- `asking::processor_phase` meets its contract, test by test. Assumes nothing.
use borrow.Author.Tests.{eq-eqb, ne_eqb}
use Rattle.asking.proofs.processor_phase.Goals as goal

pub returns-then-phase-eq1 : goal.returns-then-phase-eq1
returns-then-phase-eq1 c = rw (eq-eqb _ _ c.if-phase-eq1.true)

pub returns-else-phase-eq1 : goal.returns-else-phase-eq1
returns-else-phase-eq1 c = rw (ne_eqb _ _ c.if-phase-eq1.false)
