-- `sending::send_one` meets its contract. The loop: what is left of sending along all connectors is to send along those that have not been looked at. Assumes nothing.
use Prim.Native.Nat.{◌-◌}
use lib.ListN.{length}
use Rattle.lookup.specs.Inside.{table_in}
use Rattle.rules.specs.Step.{out_at}
use Rattle.sending.specs.Along.{Along}
use Rattle.sending.proofs.send_one.Given as goal

abbrev pub invariant-loop-link : goal.invariant-loop-link
invariant-loop-link l =
    Along l.state l.clock l.row (out_at l.port l.content) l.active l.count l.initial.mem l.looked l.sent l.mem

abbrev pub decreases-loop-link : goal.decreases-loop-link
decreases-loop-link l =
    length (table_in l.state).connectors - l.looked
