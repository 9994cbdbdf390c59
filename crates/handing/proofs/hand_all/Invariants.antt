-- `handing::hand_all` meets its contract. The loop: what is left to hand on, from the memory reached, is what was to be handed on; the messages stand where no call writes. Assumes nothing.
use Rattle.lookup.specs.Inside.{table_in}
use Rattle.handing.proofs.Hands.{Handing}
use Rattle.handing.proofs.hand_all.Given as goal

abbrev pub invariant-loop-next : goal.invariant-loop-next
invariant-loop-next l =
    Handing (table_in l.state) l.row l.component l.from l.messages l.at l.count l.initial.mem l.next l.held l.mem
