-- `handing::hand_all` meets its contract. The loop: what is left to hand on, from the memory reached, is what was to be handed on; the messages stand where no call writes. Assumes nothing.
use Rattle.std.proofs.lemmas.Result.{err_from_is_err_and}
use Rattle.lookup.specs.Inside.{table_in}
use Rattle.handing.proofs.Hands.{handing-start, handing-on, handing-stops, handing-end}
use Rattle.handing.proofs.hand_all.Goals as goal

pub loop-next-init : goal.loop-next-init
loop-next-init c =
    let a = c.args in
    let p = c.requires in
    let t = table_in a.state.now in
    handing-start t a.row a.component a.from a.messages a.at a.count a.mem.now p.1 p.8

pub returns-in_err-held-clause-hands : goal.returns-in_err-held-clause-hands
returns-in_err-held-clause-hands c =
    let refused = err_from_is_err_and c.from_residual.result c.from_residual.ensures.1 in
    let loop = c.loop-next in
    let hand-one = c.hand_one in
    let a = c.args in
    let p = c.requires in
    let t = table_in a.state.now in
    let after = hand-one.new.mem in
    rw (refused.1, refused.2) (handing-stops t a.row a.component a.from a.messages a.at a.count a.mem.now p.6 p.4 p.5 p.7 loop.next loop.held loop.mem loop.invariant c.loop-next-test.true after hand-one.result hand-one.ensures.hands _ c.in_err-held.was)

pub loop-next-preserved : goal.loop-next-preserved
loop-next-preserved c =
    let loop = c.loop-next in
    let hand-one = c.hand_one in
    let a = c.args in
    let p = c.requires in
    let t = table_in a.state.now in
    let after = hand-one.new.mem in
    handing-on t a.row a.component a.from a.messages a.at a.count a.mem.now p.6 p.4 p.5 p.7 loop.next loop.held loop.mem loop.invariant c.loop-next-test.true after hand-one.result hand-one.ensures.hands _ c.in_ok-held.was hand-one.ensures.frame

pub returns-clause-hands : goal.returns-clause-hands
returns-clause-hands c =
    let loop = c.loop-next in
    let a = c.args in
    let p = c.requires in
    let t = table_in a.state.now in
    handing-end t a.row a.component a.from a.messages a.at a.count a.mem.now p.6 p.4 p.5 p.7 loop.next loop.held loop.mem loop.invariant c.loop-next-test.false
