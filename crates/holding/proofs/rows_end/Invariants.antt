-- `holding::rows_end` meets its contract. The invariant: the next row's own words begin where those before it end, and the rows from there on stand exactly if all do. Assumes nothing.
use Prim.Native.Nat.{◌-◌}
use mathlib.Core.Path.{◌≡◌}
use Rattle.lookup.specs.Inside.{table_in}
use Rattle.views.specs.World.{begin_of}
use Rattle.holding.specs.Fitting.{rows_from, rows_stand}
use Rattle.holding.proofs.rows_end.Given as goal

abbrev pub invariant-loop-row : goal.invariant-loop-row
invariant-loop-row l = (l.begin ≡ begin_of (table_in l.state) l.row) × (rows_from (table_in l.state) l.mem l.row (l.rows - l.row) ≡ rows_stand (table_in l.state) l.mem)
