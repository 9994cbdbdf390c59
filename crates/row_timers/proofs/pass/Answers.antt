-- `row_timers::pass` meets its contract. The loop's invariant: the rows before this one have had their turn. Assumes nothing.
use Prim.Native.Nat.{◌<◌}
use mathlib.Core.Path.{sym, subst}
use native.Mathlib.Omega.{arith}
use lib.ListN.{length}
use lib.Dec.{T}
use lib.Ieee.{of_bits}
use Rattle.times.specs.Time.{is_timer}
use Rattle.rules.specs.Simulation.{State}
use Rattle.rules.proofs.Least.{own_timer}
use Rattle.lookup.specs.Inside.{table_in}
use Rattle.views.proofs.Frames.{frame_same}
use Rattle.views.proofs.Timers.{own-timer}
use Rattle.row_timers.specs.Aging.{partly-next, partly-end, none_passed}
use Rattle.row_timers.proofs.pass.Goals as goal

pub returns-then-advance : goal.returns-then-advance
unfolding of_bits
returns-then-advance c =
    let a = c.args in
    record { passes = none_passed (table_in a.state.now) a.advance a.mem.now c.requires.1 c.requires.2 c.requires.3 c.if-advance.true; frame = frame_same (table_in a.state.now) 0 0 a.mem.now }

pub pass_row-requires : goal.pass_row-requires
pass_row-requires c =
    let loop = c.loop-row in
    let a = c.args in
    let t = table_in a.state.now in
    let l : loop.row < length t.rows = omega (arith, loop.invariant.0, c.loop-row-test.true) in (
      c.requires.0,
      loop.invariant.1.laid,
      l,
      subst (λ (s : State). T (is_timer (own_timer s))) (sym (loop.invariant.1.left loop.row l (omega arith))) (own-timer t a.mem.now loop.row l c.requires.1),
      c.requires.2,
    )

pub loop-row-preserved : goal.loop-row-preserved
loop-row-preserved c =
    let loop = c.loop-row in
    let a = c.args in
    let t = table_in a.state.now in
    let l : loop.row < length t.rows = omega (arith, loop.invariant.0, c.loop-row-test.true) in
    (loop.invariant.0, partly-next t a.advance a.mem.now loop.row l _ _ loop.invariant.1 c.pass_row.ensures)

pub returns : goal.returns
returns c =
    let loop = c.loop-row in
    let a = c.args in
    let t = table_in a.state.now in
    record { passes = partly-end t a.advance a.mem.now c.requires.1 c.requires.2 c.requires.3 loop.row (omega (arith, loop.invariant.0, c.loop-row-test.false)) _ loop.invariant.1; frame = loop.invariant.1.frame }
