-- `holding::coupled_fits` meets its contract: any word is a parked message, so the places after them tell. Assumes nothing.
use mathlib.Core.Path.{sym, ◌∙◌}
use native.Mathlib.Omega.{arith}
use Rattle.rules.specs.Decides.{is_false}
use Rattle.holding.specs.RowLaws.{coupled-decides, coupled-rest}
use Rattle.holding.proofs.coupled_fits.Goals as goal

pub returns-then-phase-ne0 : goal.returns-then-phase-ne0
returns-then-phase-ne0 c =
    let a = c.args in
    sym (is_false (coupled-decides a.phase a.timer a.held a.own.now c.requires (λ i. (c.type_inv.own i).fits)) (λ h. c.if-phase-ne0.true h.0))

pub returns-then-timer-ne0 : goal.returns-then-timer-ne0
returns-then-timer-ne0 c =
    let a = c.args in
    sym (is_false (coupled-decides a.phase a.timer a.held a.own.now c.requires (λ i. (c.type_inv.own i).fits)) (λ h. c.if-timer-ne0.true h.1.0))

pub returns-then-held-gt64 : goal.returns-then-held-gt64
returns-then-held-gt64 c =
    let a = c.args in
    sym (is_false (coupled-decides a.phase a.timer a.held a.own.now c.requires (λ i. (c.type_inv.own i).fits)) (λ h. let few = h.1.1.0 in omega (arith, c.if-held-gt64.true)))

pub returns : goal.returns
returns c =
    let a = c.args in
    c.rest_clear.ensures ∙ coupled-rest a.phase a.timer a.held a.own.now c.requires (λ i. (c.type_inv.own i).fits) c.if-phase-ne0.false c.if-timer-ne0.false c.if-held-gt64.false
