-- `sending::send_one` meets its contract. The loop: what is left of sending along all connectors is to send along those that have not been looked at. Assumes nothing.
use Prim.Native.Nat.{◌<◌}
use native.Mathlib.Omega.{arith}
use Rattle.rules.specs.Step.{out_at}
use Rattle.sending.specs.Along.{none-along, one_along, along-start, along-none, along-full, along-on}
use Rattle.sending.proofs.send_one.Goals as goal

pub loop-link-init : goal.loop-link-init
loop-link-init c =
    let a = c.args in
    let pre = c.requires in
    along-start a.state.now a.clock a.row (out_at a.port a.content) a.active a.count a.mem.now pre.0 pre.4

pub returns-clause-sends : goal.returns-clause-sends
returns-clause-sends c =
    let a = c.args in
    let m = out_at a.port a.content in
    let s = c.loop-link in
    let found = none-along a.state.now a.clock a.row m _ s.looked _ _ c.id_of-id.ensures c.next_connector.ensures c.in_default.is in
    along-none a.state.now a.clock a.row m a.active a.count a.mem.now s.looked s.sent s.mem s.invariant found

pub returns-then-sent-eq256-clause-sends : goal.returns-then-sent-eq256-clause-sends
returns-then-sent-eq256-clause-sends c =
    let a = c.args in
    let m = out_at a.port a.content in
    let s = c.loop-link in
    let found = one_along a.state.now a.clock a.row m _ s.looked _ _ c.id_of-id.ensures c.next_connector.ensures c.in-Some.link.place c.in-Some.link.target c.in-Some.is in
    along-full a.state.now a.clock a.row m a.active a.count a.mem.now s.looked s.sent s.mem s.invariant _ found.0 c.if-sent-eq256.true

pub loop-link-preserved : goal.loop-link-preserved
loop-link-preserved c =
    let a = c.args in
    let pre = c.requires in
    let m = out_at a.port a.content in
    let s = c.loop-link in
    let found = one_along a.state.now a.clock a.row m _ s.looked _ _ c.id_of-id.ensures c.next_connector.ensures c.in-Some.link.place c.in-Some.link.target c.in-Some.is in
    let few = s.invariant.few in
    let full = c.if-sent-eq256.false in
    let free : s.sent < 256 = omega arith in
    along-on a.state.now a.clock a.row m a.active a.count a.mem.now s.looked s.sent s.mem s.invariant _ found.0
    _ _ _ _ c.write_message.new.mem
    c.id_of-id.ensures found.1 c.bits_of-time.ensures found.2 c.write_message.ensures free pre.1 pre.2 pre.3
