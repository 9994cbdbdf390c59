-- `lent_runs::run` meets its contract: an order that asks for another is of a higher rank. Assumes nothing.
use mathlib.Core.Path.{◌≡◌, refl, sym, ap, subst, ◌∙◌}
use mathlib.Core.Bool.{Bool, true}
use native.Mathlib.Omega.{arith}
use lib.ListN.{length}
use lib.Dec.{T, lt→ltb}
use lib.Ieee.{Float}
use Rattle.times.specs.Time.{is_time, is_timer}
use Rattle.times.proofs.Laws.{never-timer, time-timer}
use Rattle.rules.specs.Sizes.{is_word}
use Rattle.rules.specs.Layout.{room_in}
use Rattle.lent_runs.specs.Reported.{Fits}
use Rattle.lent_runs.specs.OrderLaws.{rank, steps-done, until-refused, until-run, bounded-run}
use Prim.Native.Nat.{ℕ, ◌<◌, ◌^◌}
use Rattle.lent_runs.proofs.+run.Goals as goal

pub run-report-requires : goal.run-report-requires
run-report-requires t c =
    (subst (λ (n : ℕ). 0 < n) (sym (ap rank c.in-Steps.is) ∙ c.decreases) (omega arith), (c.requires.0, subst (λ (x : Float). T (is_timer x)) (sym c.never.ensures) never-timer))

pub returns-then-not-is_time : goal.returns-then-not-is_time
returns-then-not-is_time t c = let all = until-refused c.args.services.now (room_in c.args.rows.now) c.args.state.now c.requires.0 c.args.order c.in-Until.until c.in-Until.allowance c.in-Until.is (sym c.is_time.ensures ∙ c.if-not-is_time.true) c.refused.result c.refused.ensures c.args.rows.now in record { reports = all.0; leaves = all.1 }

pub run-requires : goal.run-requires
run-requires t c =
    let good : is_time c.in-Until.until ≡ true = sym c.is_time.ensures ∙ c.if-not-is_time.false in
    (subst (λ (n : ℕ). 0 < n) (sym (ap rank c.in-Until.is) ∙ c.decreases) (omega arith), (c.requires.0, time-timer c.in-Until.until (subst (λ (b : Bool). T b) (sym good) tt)))

pub active_at-end-requires : goal.active_at-end-requires
active_at-end-requires t c =
    c.requires.0

pub run_small-requires : goal.run_small-requires
run_small-requires t c =
    (c.requires.0, omega (arith, c.active_at-end.ensures, c.if-end-le1571.true), subst Fits c.in-Bounded.is c.requires.1)

pub returns-then-end-le1571 : goal.returns-then-end-le1571
returns-then-end-le1571 t c = let all = bounded-run c.args.services.now (room_in c.args.rows.now) c.args.state.now c.requires.0 c.args.order c.in-Bounded.until c.in-Bounded.bound c.in-Bounded.is c.run_small.result c.args.rows.now c.run_small.new.rows c.run_small.new.state (c.run_small.ensures.reports, c.run_small.ensures.leaves) in record { reports = all.0; leaves = all.1 }

pub run_medium-requires : goal.run_medium-requires
run_medium-requires t c =
    (c.requires.0, omega (arith, c.active_at-end.ensures, c.if-end-le4707.true), subst Fits c.in-Bounded.is c.requires.1)

pub returns-then-end-le4707 : goal.returns-then-end-le4707
returns-then-end-le4707 t c = let all = bounded-run c.args.services.now (room_in c.args.rows.now) c.args.state.now c.requires.0 c.args.order c.in-Bounded.until c.in-Bounded.bound c.in-Bounded.is c.run_medium.result c.args.rows.now c.run_medium.new.rows c.run_medium.new.state (c.run_medium.ensures.reports, c.run_medium.ensures.leaves) in record { reports = all.0; leaves = all.1 }

pub run_large-requires : goal.run_large-requires
run_large-requires t c =
    (c.requires.0, subst Fits c.in-Bounded.is c.requires.1)

pub returns-in-Steps : goal.returns-in-Steps
returns-in-Steps t c =
    let short : T (is_word (length c.args.services.now)) = lt→ltb (length c.args.services.now) (2 ^ 64) c.well_formed.1.0.0 in
    let all = steps-done c.args.services.now (room_in c.args.rows.now) c.args.state.now c.requires.0 short c.args.order c.in-Steps.count c.in-Steps.is c.never.result c.never.ensures c.run-report.result (record { steps = c.run-report.result.steps; written = c.run-report.result.written; end = c.done_for.result }) c.args.rows.now c.run-report.new.rows c.run-report.new.state (c.run-report.ensures.reports, c.run-report.ensures.leaves) refl refl c.done_for.ensures in record { reports = all.0; leaves = all.1 }

pub returns-else-not-is_time : goal.returns-else-not-is_time
returns-else-not-is_time t c = let all = until-run c.args.services.now (room_in c.args.rows.now) c.args.state.now c.requires.0 c.args.order c.in-Until.until c.in-Until.allowance c.in-Until.is (sym c.is_time.ensures ∙ c.if-not-is_time.false) c.run.result c.args.rows.now c.run.new.rows c.run.new.state (c.run.ensures.reports, c.run.ensures.leaves) in record { reports = all.0; leaves = all.1 }

pub returns-else-end-le4707 : goal.returns-else-end-le4707
returns-else-end-le4707 t c = let all = bounded-run c.args.services.now (room_in c.args.rows.now) c.args.state.now c.requires.0 c.args.order c.in-Bounded.until c.in-Bounded.bound c.in-Bounded.is c.run_large.result c.args.rows.now c.run_large.new.rows c.run_large.new.state (c.run_large.ensures.reports, c.run_large.ensures.leaves) in record { reports = all.0; leaves = all.1 }
