-- `sending::send_all` meets its contract. The loop: what is left of sending all messages is to send those from `next` on. Assumes nothing.
use Rattle.std.proofs.lemmas.Result.{err_from_is_err_and}
use native.Mathlib.Omega.{arith}
use Rattle.lookup.specs.Inside.{table_in}
use Rattle.sending.specs.Outgoing.{going_start, going_on, going-stops}
use Rattle.sending.proofs.send_all.Goals as goal

pub loop-next-init : goal.loop-next-init
loop-next-init c =
    let a = c.args in
    let pre = c.requires in
    going_start (table_in a.state.now) a.clock a.row a.from a.messages a.mem.now a.active a.count (omega arith) pre.7

pub returns-in_err-sent-clause-sends : goal.returns-in_err-sent-clause-sends
returns-in_err-sent-clause-sends c =
    let refused = err_from_is_err_and c.from_residual.result c.from_residual.ensures.1 in
    let a = c.args in
    let pre = c.requires in
    let t = table_in a.state.now in
    let s = c.loop-next in
    let one = c.send_one in
    rw (refused.1, refused.2) (going-stops t a.clock a.row a.from a.messages a.mem.now a.active a.count s.next s.sent s.mem s.invariant c.loop-next-test.true pre.3 pre.4
    one.result one.new.mem one.ensures.sends c.in_err-sent.field-0.0 c.in_err-sent.was)

pub loop-next-preserved : goal.loop-next-preserved
loop-next-preserved c =
    let a = c.args in
    let pre = c.requires in
    let s = c.loop-next in
    let one = c.send_one in
    going_on (table_in a.state.now) a.clock a.row a.from a.messages a.mem.now a.active a.count s.next s.sent s.mem s.invariant c.loop-next-test.true pre.3 pre.4
    one.result one.new.mem one.ensures.sends c.in_ok-sent.sent c.in_ok-sent.was one.ensures.only
