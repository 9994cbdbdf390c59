-- `holding::batcher_fits` meets its contract: each way out is one of the tests. Assumes nothing.
use mathlib.Core.Path.{sym, subst, ◌∙◌}
use native.Mathlib.Omega.{arith}
use lib.Dec.{T}
use Rattle.rules.specs.Decides.{is_false}
use Rattle.holding.specs.RowLaws.{batcher-decides, batcher-rest}
use Rattle.holding.proofs.batcher_fits.Goals as goal

pub returns-then-phase-gt2 : goal.returns-then-phase-gt2
returns-then-phase-gt2 c =
    let a = c.args in
    λ model. sym (is_false (batcher-decides a.phase a.timer a.held a.own.now c.requires model) (λ h. let low = h.0 in omega (arith, c.if-phase-gt2.true)))

pub returns-then-not-is_timer : goal.returns-then-not-is_timer
returns-then-not-is_timer c =
    let a = c.args in
    λ model. sym (is_false (batcher-decides a.phase a.timer a.held a.own.now c.requires model) (λ h. subst T (sym c.is_timer.ensures ∙ c.if-not-is_timer.true) h.1.0))

pub returns : goal.returns
returns c =
    let a = c.args in
    λ model. c.queue_fits.ensures ∙ batcher-rest a.phase a.timer a.held a.own.now c.requires model c.if-phase-gt2.false (sym c.is_timer.ensures ∙ c.if-not-is_timer.false)
