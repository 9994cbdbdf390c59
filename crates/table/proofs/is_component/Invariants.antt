-- `table::is_component` meets its contract. The invariant: the rows that are left have it exactly if all do. Assumes nothing.
use Prim.Native.Nat.{◌/◌, ◌≤◌}
use mathlib.Core.Path.{◌≡◌}
use lib.ListN.{length}
use Rattle.rules.specs.Intake.{is_component_of}
use Rattle.table.specs.Judging.{earlier_in, all_in}
use Rattle.table.proofs.is_component.Given as goal

abbrev pub invariant-loop-row : goal.invariant-loop-row
invariant-loop-row l =
    (l.row ≤ length l.models / 10) × (is_component_of (earlier_in l.models l.row) l.owner l.target ≡ is_component_of (all_in l.models) l.owner l.target)
