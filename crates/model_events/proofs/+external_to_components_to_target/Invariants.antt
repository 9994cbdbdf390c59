-- `model_events::external`, `to_components` and `to_target` meet their contracts. The loop: what is left of the couplings, from the words as they stand, is the whole from the words at first. Assumes nothing.
use mathlib.Core.Path.{◌≡◌}
use lib.ListN.{length}
use Rattle.rules.specs.Table.{id_at}
use Rattle.selection.specs.Selecting.{is_input}
use Rattle.lookup.specs.Inside.{table_in, couplings_in}
use Rattle.sweeps.specs.Loops.{Going}
use Rattle.model_events.specs.External.{along_input}
use Prim.Native.Nat.{◌+◌, ◌*◌, ◌-◌}
use Rattle.model_events.proofs.+external_to_components_to_target.Given as goal

abbrev pub decreases-external : goal.decreases-external
decreases-external l = l.depth * 3

abbrev pub decreases-to_components : goal.decreases-to_components
decreases-to_components l = l.depth * 3 + 2

abbrev pub decreases-to_target : goal.decreases-to_target
decreases-to_target l = l.depth * 3 + 1

abbrev pub invariant-to_components-loop-coupling : goal.invariant-to_components-loop-coupling
invariant-to_components-loop-coupling l =
    (l.owner ≡ id_at (table_in l.state) l.row)
    × (length l.mem ≡ length l.initial.mem)
    × Going (table_in l.state) (along_input l.state l.services l.depth l.clock l.owner l.content) (is_input (couplings_in l.state) l.owner l.port) l.initial.mem (length (table_in l.state).couplings) l.from l.mem

abbrev pub decreases-to_components-loop-coupling : goal.decreases-to_components-loop-coupling
decreases-to_components-loop-coupling l =
    length (table_in l.state).couplings - l.from
