-- `asking::batcher_phase` meets its contract, test by test. Assumes nothing.
use borrow.Author.Tests.{eq-eqb, ne_eqb}
use Rattle.asking.proofs.batcher_phase.Goals as goal

pub returns-then-phase-eq1 : goal.returns-then-phase-eq1
returns-then-phase-eq1 c = rw (eq-eqb _ _ c.if-phase-eq1.true)

pub returns-then-phase-eq2 : goal.returns-then-phase-eq2
returns-then-phase-eq2 c = rw (ne_eqb _ _ c.if-phase-eq1.false, eq-eqb _ _ c.if-phase-eq2.true)

pub returns : goal.returns
returns c = rw (ne_eqb _ _ c.if-phase-eq1.false, ne_eqb _ _ c.if-phase-eq2.false)
