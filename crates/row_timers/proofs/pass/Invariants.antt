-- `row_timers::pass` meets its contract. The loop's invariant: the rows before this one have had their turn. Assumes nothing.
use mathlib.Core.Path.{◌≡◌}
use lib.ListN.{length}
use Rattle.lookup.specs.Inside.{table_in}
use Rattle.row_timers.specs.Aging.{Partly}
use Rattle.row_timers.proofs.pass.Given as goal

abbrev pub invariant-loop-row : goal.invariant-loop-row
invariant-loop-row l = (l.end ≡ length (table_in l.state).rows) × Partly (table_in l.state) l.advance l.row l.initial.mem l.mem
