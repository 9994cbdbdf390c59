-- `holding::stopwatch_fits` meets its contract: each way out is one of the tests. Assumes nothing.
use mathlib.Core.Path.{sym, subst, ◌∙◌}
use native.Mathlib.Omega.{arith}
use lib.Dec.{T}
use Rattle.rules.specs.Decides.{is_false}
use Rattle.marks.specs.MarkingLaws.{fit-rules, whole_says}
use Rattle.holding.specs.RowLaws.{stopwatch-decides, stopwatch-rest}
use Rattle.holding.proofs.stopwatch_fits.Goals as goal

pub returns-then-phase-gt1 : goal.returns-then-phase-gt1
returns-then-phase-gt1 c =
    let a = c.args in
    λ model. sym (is_false (stopwatch-decides a.phase a.timer a.held a.own.now model) (λ h. let low = h.0 in omega (arith, c.if-phase-gt1.true)))

pub returns-then-not-is_timer : goal.returns-then-not-is_timer
returns-then-not-is_timer c =
    let a = c.args in
    λ model. sym (is_false (stopwatch-decides a.phase a.timer a.held a.own.now model) (λ h. subst T (sym c.is_timer.ensures ∙ c.if-not-is_timer.true) h.1.0))

pub returns-then-not-fit : goal.returns-then-not-fit
returns-then-not-fit c =
    let a = c.args in
    λ model. sym (is_false (stopwatch-decides a.phase a.timer a.held a.own.now model) (λ h. subst T (sym c.fit.ensures ∙ c.if-not-fit.true) h.1.1.0))

pub columns_clear-requires : goal.columns_clear-requires
columns_clear-requires c =
    let a = c.args in
    ((whole_says a.held a.own.now (fit-rules a.held a.own.now (sym c.fit.ensures ∙ c.if-not-fit.false)).whole).0, c.requires)

pub returns : goal.returns
returns c =
    let a = c.args in
    λ model. c.columns_clear.ensures ∙ stopwatch-rest a.phase a.timer a.held a.own.now model c.if-phase-gt1.false (sym c.is_timer.ensures ∙ c.if-not-is_timer.false) (sym c.fit.ensures ∙ c.if-not-fit.false)
