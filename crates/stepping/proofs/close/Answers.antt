-- `stepping::close` meets its contract. Assumes nothing.
use mathlib.Core.Path.{◌∙◌}
use native.Mathlib.Omega.{arith}
use Rattle.lookup.specs.Inside.{table_in}
use Rattle.stepping.specs.Whole.{close-done}
use Rattle.stepping.proofs.close.Goals as goal

pub returns : goal.returns
returns c =
    let a = c.args in
    let t = table_in a.state.now in
    let long = c.root_turns.auto.mem in
    record { closes = close-done t a.services.now a.clock c.requires.0.time a.mem.now c.root_turns.new.mem c.stamp.new.mem a.active c.in_ok-count.count c.bits_of.result c.requires.1 c.bits_of.ensures (let r = c.requires.2 in let e = c.requires.1 in omega (arith, long)) c.stamp.ensures c.in_ok-count.ensures.joins; long = c.stamp.auto.mem ∙ long }
