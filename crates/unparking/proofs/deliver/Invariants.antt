-- `unparking::deliver` meets its contract. The loop: what is left of the messages, from the words as they stand, is the whole from the words at first. Assumes nothing.
use Prim.Native.Nat.{◌-◌}
use Rattle.unparking.proofs.Delivering.{Delivering}
use Rattle.unparking.proofs.deliver.Given as goal

abbrev pub invariant-loop-place : goal.invariant-loop-place
invariant-loop-place l =
    Delivering l.state l.services l.depth l.clock l.row l.component l.id l.begin l.held l.initial.mem l.from l.mem

abbrev pub decreases-loop-place : goal.decreases-loop-place
decreases-loop-place l = l.held - l.from
