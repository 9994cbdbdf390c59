-- `sending::send_all` meets its contract. The loop: what is left of sending all messages is to send those from `next` on. Assumes nothing.
use Rattle.lookup.specs.Inside.{table_in}
use Rattle.sending.specs.Outgoing.{Going}
use Rattle.sending.proofs.send_all.Given as goal

abbrev pub invariant-loop-next : goal.invariant-loop-next
invariant-loop-next l =
    Going (table_in l.state) l.clock l.row l.from l.messages l.initial.mem l.active l.count l.next l.sent l.mem
