-- `watch_rows::store_stopwatch` meets its contract: the phase's number and the timer's bits are written. Assumes nothing.
use mathlib.Core.Path.{sym}
use Rattle.watch_rows.proofs.store_stopwatch.Goals as goal

pub returns-in-Passive : goal.returns-in-Passive
returns-in-Passive c =
    rw (c.in-Passive.is, sym c.bits_of-timer.ensures) c.set_head.ensures

pub returns-in-JobFetch : goal.returns-in-JobFetch
returns-in-JobFetch c =
    rw (c.in-JobFetch.is, sym c.bits_of-timer.ensures) c.set_head-in-JobFetch.ensures
