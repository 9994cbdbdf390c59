-- `row_timers::next_at_zero` meets its contract. The loop: what is left of the search is the whole. Assumes nothing.
use Prim.Native.Nat.{◌<◌}
use mathlib.Core.Path.{sym, ap, ◌∙◌}
use native.Mathlib.Omega.{arith}
use lib.ListN.{length}
use lib.Ieee.{Float, of_bits, eq}
use Rattle.times.specs.Time.{instant}
use Rattle.lookup.specs.Inside.{table_in}
use Rattle.views.proofs.Timers.{head-here, own-timer}
use Rattle.sweeps.specs.Skips.{stop-hit, stop-skip}
use Rattle.row_timers.specs.Passing.{at_zero}
use Rattle.row_timers.specs.Aging.{timer-any}
use Rattle.row_timers.proofs.next_at_zero.Goals as goal

pub timer_at-requires : goal.timer_at-requires
timer_at-requires c =
    let a = c.args in
    let t = table_in a.state.now in
    let l : c.loop-row.row < length t.rows = (let e = c.loop-row.invariant.0 in let m = c.loop-row-test.true in omega arith) in
    (head-here t a.mem.now c.loop-row.row l c.requires.1.laid, timer-any t a.mem.now c.loop-row.row l c.requires.1.laid (own-timer t a.mem.now c.loop-row.row l c.requires.1))

pub returns-then-timer_at : goal.returns-then-timer_at
unfolding of_bits
returns-then-timer_at c =
    sym (stop-hit (at_zero c.args.mem.now) c.loop-row.row c.row_count-end.result c.loop-row-test.true (ap (λ (x : Float). eq x instant) (sym c.timer_at.ensures) ∙ c.if-timer_at.true)) ∙ c.loop-row.invariant.1

pub loop-row-preserved : goal.loop-row-preserved
unfolding of_bits
loop-row-preserved c =
    (c.loop-row.invariant.0, sym (stop-skip (at_zero c.args.mem.now) c.loop-row.row c.row_count-end.result c.loop-row-test.true (ap (λ (x : Float). eq x instant) (sym c.timer_at.ensures) ∙ c.if-timer_at.false)) ∙ c.loop-row.invariant.1)
