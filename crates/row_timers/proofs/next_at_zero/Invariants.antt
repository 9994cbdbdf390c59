-- `row_timers::next_at_zero` meets its contract. The loop: what is left of the search is the whole. Assumes nothing.
use Prim.Native.Nat.{◌-◌}
use mathlib.Core.Path.{◌≡◌}
use lib.ListN.{length}
use Rattle.lookup.specs.Inside.{table_in}
use Rattle.sweeps.specs.Skips.{stop_from}
use Rattle.row_timers.specs.Passing.{at_zero}
use Rattle.row_timers.proofs.next_at_zero.Given as goal

abbrev pub invariant-loop-row : goal.invariant-loop-row
invariant-loop-row l =
    (l.end ≡ length (table_in l.state).rows)
    × (stop_from (at_zero l.mem) l.row (l.end - l.row) ≡ stop_from (at_zero l.mem) l.from (length (table_in l.state).rows - l.from))
