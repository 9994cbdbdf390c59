-- `taking::next_addressed` meets its contract. The loop: what is left of the search is the whole. Assumes nothing.
use Prim.Native.Nat.{◌-◌}
use mathlib.Core.Path.{◌≡◌}
use lib.ListN.{length}
use Rattle.lookup.specs.Inside.{table_in}
use Rattle.sweeps.specs.Skips.{stop_from}
use Rattle.taking.specs.Taking.{is_addressed}
use Rattle.taking.proofs.next_addressed.Given as goal

abbrev pub invariant-loop-row : goal.invariant-loop-row
invariant-loop-row l =
    (l.end ≡ length (table_in l.state).rows)
    × (stop_from (is_addressed (table_in l.state) l.active l.count l.mem) l.row (l.end - l.row) ≡ stop_from (is_addressed (table_in l.state) l.active l.count l.mem) l.from (length (table_in l.state).rows - l.from))
