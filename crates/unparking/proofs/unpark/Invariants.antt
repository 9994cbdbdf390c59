-- `unparking::unpark` meets its contract. The loop: what is left of the components, from the words as they stand, is the whole from the words at first. Assumes nothing.
use Prim.Native.Nat.{◌-◌}
use lib.ListN.{length}
use Rattle.lookup.specs.Inside.{table_in}
use Rattle.unparking.proofs.Unparking.{Unparking}
use Rattle.unparking.proofs.unpark.Given as goal

abbrev pub invariant-loop-component : goal.invariant-loop-component
invariant-loop-component l =
    Unparking l.state l.services l.depth l.clock l.row l.owner (length (table_in l.state).rows) l.initial.mem l.from l.mem

abbrev pub decreases-loop-component : goal.decreases-loop-component
decreases-loop-component l = length (table_in l.state).rows - l.from
