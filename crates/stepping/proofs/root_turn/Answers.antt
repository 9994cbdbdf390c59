-- `stepping::root_turn` meets its contract. Assumes nothing.
use Prim.Native.Nat.{◌+◌, ◌≤◌}
use mathlib.Core.Path.{sym, ◌∙◌}
use native.Mathlib.Omega.{arith}
use lib.ListN.{length}
use Rattle.lookup.specs.Inside.{table_in}
use Rattle.views.proofs.Frames.{frame_same, frame_then, frame-wider}
use Rattle.stepping.specs.Parts.{no-root-turn, root-goes, sent-kept, only-frame}
use Rattle.stepping.proofs.root_turn.Goals as goal

-- src/lib.rt:66:9
pub returns-then-not-is_due : goal.returns-then-not-is_due
returns-then-not-is_due c =
    let a = c.args in
    let t = table_in a.state.now in
    record { joins = no-root-turn t a.services.now a.clock a.row a.active a.count a.mem.now c.requires.0.scene.ready c.requires.4 (sym c.is_due.ensures ∙ c.if-not-is_due.true); frame = frame_same t a.active (length a.mem.now) a.mem.now }

pub returns : goal.returns
returns c =
    let a = c.args in
    let t = table_in a.state.now in
    let mid = c.internal.new.mem in
    let after = c.send_all.new.mem in
    let p = c.in_ok-messages.ensures.gives in
    let len = length a.mem.now in
    let room : a.active + 1536 ≤ len = (let r = c.requires.3 in omega arith) in
    let kept = sent-kept t (a.active + 1536) len a.active a.count a.mem.now mid c.requires.2 (let f = c.requires.4 in omega arith) c.internal.ensures.frame in
    record {
      joins = root-goes t a.services.now a.clock a.row a.active a.count a.mem.now (sym c.is_due.ensures ∙ c.if-not-is_due.false) (a.active + 1536) c.in_ok-messages.messages mid after c.send_all.result p kept c.requires.2 c.send_all.ensures.only c.send_all.ensures.sends;
      frame = frame_then t a.active len a.mem.now mid after (frame-wider t (a.active + 1536) len a.active len a.mem.now mid (omega arith) (omega arith) c.internal.ensures.frame)
          (frame-wider t a.active (a.active + 1536) a.active len mid after (omega arith) room (only-frame t a.active (a.active + 1536) mid after c.requires.2 c.send_all.ensures.only));
    }
