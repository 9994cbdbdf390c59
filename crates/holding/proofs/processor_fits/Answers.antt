-- `holding::processor_fits` meets its contract: each way out is one of the tests. Assumes nothing.
use mathlib.Core.Path.{sym, subst, ◌∙◌}
use native.Mathlib.Omega.{arith}
use lib.Dec.{T}
use Rattle.rules.specs.Decides.{is_false}
use Rattle.holding.specs.RowLaws.{processor-decides, processor-rest}
use Rattle.holding.proofs.processor_fits.Goals as goal

pub returns-then-phase-gt1 : goal.returns-then-phase-gt1
returns-then-phase-gt1 c =
    let a = c.args in
    λ model cap. sym (is_false (processor-decides a.phase a.timer a.held a.own.now c.requires model) (λ h. let low = h.0 in omega (arith, c.if-phase-gt1.true)))

pub returns-then-not-is_timer : goal.returns-then-not-is_timer
returns-then-not-is_timer c =
    let a = c.args in
    λ model cap. sym (is_false (processor-decides a.phase a.timer a.held a.own.now c.requires model) (λ h. subst T (sym c.is_timer.ensures ∙ c.if-not-is_timer.true) h.1.0))

pub returns-then-capacity-held : goal.returns-then-capacity-held
returns-then-capacity-held c =
    let a = c.args in
    λ model cap. sym (is_false (processor-decides a.phase a.timer a.held a.own.now c.requires model) (λ h. let few = h.1.1.0 in omega (arith, cap, c.if-capacity-held.true)))

pub returns-then-held-phase : goal.returns-then-held-phase
returns-then-held-phase c =
    let a = c.args in
    λ model cap. sym (is_false (processor-decides a.phase a.timer a.held a.own.now c.requires model) (λ h. let some = h.1.1.1.0 in omega (arith, c.if-held-phase.true)))

pub returns : goal.returns
returns c =
    let a = c.args in
    λ model cap. c.queue_fits.ensures
    ∙ processor-rest a.phase a.timer a.held a.own.now c.requires model c.if-phase-gt1.false (sym c.is_timer.ensures ∙ c.if-not-is_timer.false) (let few = c.if-capacity-held.false in omega (arith, cap)) c.if-held-phase.false
