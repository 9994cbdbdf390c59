-- `queue_rows::load_batcher` meets its contract. Assumes nothing.
use borrow.Author.Tests.{eq-eqb, ne_eqb}
use Rattle.queue_rows.proofs.load_batcher.Goals as goal

pub returns-then-phase-eq1 : goal.returns-then-phase-eq1
returns-then-phase-eq1 c = rw (c.timer_at-timer.ensures, c.held_at-held.ensures, ← c.phase_at-phase.ensures, eq-eqb _ _ c.if-phase-eq1.true)

pub returns-then-phase-eq2 : goal.returns-then-phase-eq2
returns-then-phase-eq2 c = rw (c.timer_at-timer.ensures, c.held_at-held.ensures, ← c.phase_at-phase.ensures, ne_eqb _ _ c.if-phase-eq1.false, eq-eqb _ _ c.if-phase-eq2.true)

pub returns : goal.returns
returns c = rw (c.timer_at-timer.ensures, c.held_at-held.ensures, ← c.phase_at-phase.ensures, ne_eqb _ _ c.if-phase-eq1.false, ne_eqb _ _ c.if-phase-eq2.false)
