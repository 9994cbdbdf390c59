-- `queue_rows::load_processor` meets its contract. Assumes nothing.
use borrow.Author.Tests.{eq-eqb, ne_eqb}
use Rattle.queue_rows.proofs.load_processor.Goals as goal

pub returns-then-phase_at-eq1 : goal.returns-then-phase_at-eq1
returns-then-phase_at-eq1 c = rw (c.timer_at-timer.ensures, c.held_at-held.ensures, ← c.phase_at.ensures, eq-eqb _ _ c.if-phase_at-eq1.true)

pub returns : goal.returns
returns c = rw (c.timer_at-timer.ensures, c.held_at-held.ensures, ← c.phase_at.ensures, ne_eqb _ _ c.if-phase_at-eq1.false)
