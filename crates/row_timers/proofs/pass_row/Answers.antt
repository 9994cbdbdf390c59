-- `row_timers::pass_row` meets its contract: a timer that never runs out and a Coupled stay as they are, another atom's timer word is written. Assumes nothing.
use mathlib.Core.Path.{sym, subst, ◌∙◌}
use lib.Dec.{T}
use lib.Ieee.{Float, eq}
use Rattle.times.specs.Time.{never, is_timer}
use Rattle.times.proofs.Laws.{never-timer, timers-eq}
use Rattle.lookup.specs.Inside.{table_in}
use Rattle.views.proofs.Timers.{head-here}
use Rattle.row_timers.specs.Aging.{timer-any, aged-never, aged-atom}
use Rattle.row_timers.proofs.pass_row.Goals as goal

pub timer_at-timer-requires : goal.timer_at-timer-requires
timer_at-timer-requires c =
    let a = c.args in
    let t = table_in a.state.now in
    (head-here t a.mem.now a.row c.requires.2 c.requires.1, timer-any t a.mem.now a.row c.requires.2 c.requires.1 c.requires.3)

pub returns-then-timer-never : goal.returns-then-timer-never
returns-then-timer-never c =
    let a = c.args in
    let t = table_in a.state.now in
    let timer = timer-any t a.mem.now a.row c.requires.2 c.requires.1 c.requires.3 in
    aged-never t a.advance a.row c.requires.2 a.mem.now c.requires.1 c.requires.4 (sym c.timer_at-timer.ensures ∙ (timers-eq c.timer_at-timer.result never (subst (λ (z : Float). T (is_timer z)) (sym c.timer_at-timer.ensures) timer) never-timer).0 (subst (λ (z : Float). T (eq c.timer_at-timer.result z)) c.never.ensures (subst T (sym c.if-timer-never.true) tt)))

pub returns : goal.returns
returns c =
    let a = c.args in
    let t = table_in a.state.now in
    rw (c.set_timer.ensures, c.bits_of-bits.ensures, c.after.ensures, c.timer_at-timer.ensures)
    (aged-atom t a.advance a.row c.requires.2 a.mem.now c.requires.1 (sym c.is_coupled.ensures ∙ c.if-is_coupled.false))
