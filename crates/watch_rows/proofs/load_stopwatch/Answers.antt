-- `watch_rows::load_stopwatch` meets its contract: the phase by its number, and the rest as it stands. Assumes nothing.
use mathlib.Core.Path.{sym}
use borrow.Author.Tests.{eq-eqb, ne_eqb}
use Rattle.watch_rows.proofs.load_stopwatch.Goals as goal

pub returns-then-phase_at-eq1 : goal.returns-then-phase_at-eq1
returns-then-phase_at-eq1 c =
    let n = eq-eqb c.phase_at.result 1 c.if-phase_at-eq1.true in
    rw (sym c.phase_at.ensures, n, c.timer_at-timer.ensures, c.held_at-held.ensures)

pub returns : goal.returns
returns c =
    let n = ne_eqb c.phase_at.result 1 c.if-phase_at-eq1.false in
    rw (sym c.phase_at.ensures, n, c.timer_at-timer.ensures, c.held_at-held.ensures)
