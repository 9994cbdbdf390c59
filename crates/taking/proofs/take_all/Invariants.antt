-- `taking::take_all` meets its contract. The loop: what is left of the models without parent, from the words as they stand, is the whole from the words at first; the messages' own words stay. Assumes nothing.
use Prim.Native.Nat.{◌-◌, ◌≤◌}
use lib.ListN.{length}
use Rattle.lookup.specs.Inside.{table_in}
use Rattle.views.specs.Messages.{messages_in}
use Rattle.sweeps.specs.Loops.{Going}
use Rattle.taking.specs.Taking.{takes_all}
use Rattle.taking.specs.TakingLaws.{has_no_parent}
use Rattle.taking.proofs.take_all.Given as goal

abbrev pub invariant-loop-row : goal.invariant-loop-row
invariant-loop-row l =
    (l.from ≤ length (table_in l.state).rows)
    × Going (table_in l.state) (takes_all (table_in l.state) l.services l.clock (messages_in l.active l.count l.initial.mem)) (has_no_parent (table_in l.state)) l.initial.mem (length (table_in l.state).rows) l.from l.mem

abbrev pub decreases-loop-row : goal.decreases-loop-row
decreases-loop-row l =
    length (table_in l.state).rows - l.from
