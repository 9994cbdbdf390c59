-- `taking::take_for` meets its contract. The loop: what is left of the messages, from the words as they stand, is the whole from the words at first; the messages' own words stay. Assumes nothing.
use Prim.Native.Nat.{◌-◌}
use Rattle.lookup.specs.Inside.{table_in}
use Rattle.taking.specs.TakingLaws.{Along}
use Rattle.taking.proofs.take_for.Given as goal

abbrev pub invariant-loop-k : goal.invariant-loop-k
invariant-loop-k l =
    Along (table_in l.state) l.services l.clock l.row l.active l.count l.initial.mem l.mem l.k

abbrev pub decreases-loop-k : goal.decreases-loop-k
decreases-loop-k l =
    l.count - l.k
