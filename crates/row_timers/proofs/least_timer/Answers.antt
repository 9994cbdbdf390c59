-- `row_timers::least_timer` meets its contract. The loop's invariant: the least so far and the least of the rows to come are the least timer. Assumes nothing.
use Prim.Native.Nat.{◌+◌, ◌<◌}
use mathlib.Core.Path.{◌≡◌, sym, ap, ◌∙◌, subst}
use native.Mathlib.Omega.{arith}
use lib.ListN.{length}
use lib.Dec.{T}
use lib.Ieee.{Float, binary64, of_bits, lt}
use Rattle.times.specs.Time.{is_timer, least_of}
use Rattle.times.proofs.Laws.{never-timer}
use Rattle.memory.specs.Words.{timer_in}
use Rattle.lookup.specs.Inside.{table_in}
use Rattle.views.proofs.Timers.{head-here, own-timer}
use Rattle.row_timers.specs.Leasts.{least_from, counts-here, join-start, join-below, join-uncounted, join-over, join-end}
use Rattle.row_timers.specs.Aging.{timer-any}
use Rattle.row_timers.proofs.least_timer.Goals as goal
use Rattle.row_timers.proofs.least_timer.Goals.{then-timer-least+then-counts, else-timer-least, else-timer-least-via-then-timer-least+else-counts, else-timer-least-via-else-timer-least}

pub loop-row-init : goal.loop-row-init
loop-row-init c =
    let a = c.args in (
      c.row_count-end.ensures,
      subst (λ (x : Float). T (is_timer x)) (sym c.never-least.ensures) never-timer,
      ap (λ (x : Float). least_of x (least_from (table_in a.state.now) a.mem.now 0 c.row_count-end.result)) c.never-least.ensures
          ∙ join-start a.state.now a.mem.now c.requires.0 c.requires.1 c.row_count-end.result c.row_count-end.ensures,
    )

pub timer_at-timer-requires : goal.timer_at-timer-requires
timer_at-timer-requires c =
    let loop = c.loop-row in
    let a = c.args in
    let t = table_in a.state.now in
    let l : loop.row < length t.rows = (let e = loop.invariant.0 in let m = c.loop-row-test.true in omega arith) in
    (head-here t a.mem.now loop.row l c.requires.1.laid, timer-any t a.mem.now loop.row l c.requires.1.laid (own-timer t a.mem.now loop.row l c.requires.1))

pub loop-row-preserved : goal.loop-row-preserved
loop-row-preserved c =
    let loop = c.loop-row in
    let a = c.args in
    let t = table_in a.state.now in
    let mem = a.mem.now in
    let end = c.row_count-end.result in
    let whole = loop.invariant.0 in
    let row = loop.row in
    let x = loop.least in
    let l = c.loop-row-test.true in
    let ready = c.requires.1 in
    let read = c.timer_at-timer.ensures in
    elim c.if-timer-least.branch [
      | then-timer-least+then-counts w ↦
          let counted = sym w.counts.ensures ∙ w.if-counts.true in
          let e : c.if-timer-least.least ≡ of_bits binary64 (timer_in mem row) = w.least-is ∙ read in (
            whole,
            subst (λ (z : Float). T (is_timer z)) (counts-here t mem ready end whole row l counted ∙ sym e) (own-timer t mem row (omega (arith, whole, l)) ready),
            ap (λ (z : Float). least_of z (least_from t mem (row + 1) end)) e ∙ join-below t mem ready end whole row l x loop.invariant.1 counted (ap (λ (z : Float). lt z x) (sym read) ∙ w.if-timer-least.true) ∙ loop.invariant.2,
          )
      | else-timer-least w ↦
          let e : c.if-timer-least.least ≡ x = w.least-is in
          let over : least_of x (least_from t mem (row + 1) end) ≡ least_of x (least_from t mem row end) =
          elim w.else-timer-least.branch [
            | else-timer-least-via-then-timer-least+else-counts v ↦ join-uncounted t mem ready end whole row l x (sym v.counts.ensures ∙ v.if-counts.false)
            | else-timer-least-via-else-timer-least v ↦ join-over t mem ready end whole row l x loop.invariant.1 (ap (λ (z : Float). lt z x) (sym read) ∙ v.if-timer-least.false)
          ]
          in (
            whole,
            subst (λ (z : Float). T (is_timer z)) (sym e) loop.invariant.1,
            ap (λ (z : Float). least_of z (least_from t mem (row + 1) end)) e ∙ over ∙ loop.invariant.2,
          )
    ]

pub returns : goal.returns
returns c =
    let loop = c.loop-row in
    let a = c.args in
    sym (join-end (table_in a.state.now) a.mem.now c.requires.1 c.row_count-end.result loop.invariant.0 loop.row c.loop-row-test.false loop.least loop.invariant.1)
    ∙ loop.invariant.2
