-- `row_timers::least_timer` meets its contract. The loop's invariant: the least so far and the least of the rows to come are the least timer. Assumes nothing.
use mathlib.Core.Path.{◌≡◌}
use lib.ListN.{length}
use lib.Dec.{T}
use Rattle.times.specs.Time.{is_timer, least_of}
use Rattle.rules.specs.Step.{least_timer}
use Rattle.lookup.specs.Inside.{table_in}
use Rattle.views.specs.World.{states_in}
use Rattle.row_timers.specs.Leasts.{least_from}
use Rattle.row_timers.proofs.least_timer.Given as goal

abbrev pub invariant-loop-row : goal.invariant-loop-row
invariant-loop-row l =
    (l.end ≡ length (table_in l.state).rows)
    × T (is_timer l.least)
    × (least_of l.least (least_from (table_in l.state) l.mem l.row l.end) ≡ least_timer (table_in l.state) (states_in (table_in l.state) l.mem))
