-- `model_events::is_due` and `has_due` meet their contracts. The loop: whether one of the components left is due is whether one of all is. Assumes nothing.
use mathlib.Core.Path.{◌≡◌}
use lib.ListN.{length}
use Rattle.rules.specs.Base.{some_of, those}
use Rattle.rules.specs.Base as Base
use Rattle.rules.specs.Table.{id_at, components}
use Rattle.rules.specs.Step.{due}
use Rattle.lookup.specs.Inside.{table_in}
use Rattle.views.specs.World.{states_in}
use Rattle.model_events.specs.DueHere.{is_one}
use Prim.Native.Nat.{◌+◌, ◌*◌, ◌-◌}
use Rattle.model_events.proofs.+has_due_is_due.Given as goal

abbrev pub decreases-has_due : goal.decreases-has_due
decreases-has_due l = l.depth * 2 + 1

abbrev pub decreases-is_due : goal.decreases-is_due
decreases-is_due l = l.depth * 2

abbrev pub invariant-has_due-loop-component : goal.invariant-has_due-loop-component
invariant-has_due-loop-component l =
    (l.owner ≡ id_at (table_in l.state) l.row)
    × (some_of (due (table_in l.state) l.depth (states_in (table_in l.state) l.mem)) (those (is_one (table_in l.state) l.owner) (Base.from l.from (length (table_in l.state).rows - l.from)))
    ≡ some_of (due (table_in l.state) l.depth (states_in (table_in l.state) l.mem)) (components (table_in l.state) (id_at (table_in l.state) l.row)))

abbrev pub decreases-has_due-loop-component : goal.decreases-has_due-loop-component
decreases-has_due-loop-component l =
    length (table_in l.state).rows - l.from
