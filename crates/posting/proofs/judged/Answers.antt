-- `posting::judged` meets its contract. Assumes nothing.
use Rattle.std.specs.Prelude.{Err}
use Rattle.std.proofs.Common.{ap, ◌∙◌}
use Rattle.std.proofs.lemmas.Result.{err_from_is_err_and}
use Rattle.rules.specs.declared.Refusal.{Refusal}
use Rattle.rules.specs.Intake.{intake}
use Rattle.rules.specs.Layout.{lent}
use Rattle.posting.specs.WholeLaws.{answer-read}
use Rattle.posting.proofs.judged.Goals as goal

pub returns-in_err-intake : goal.returns-in_err-intake
returns-in_err-intake c =
    let a = c.args in
    let h = err_from_is_err_and c.from_residual.result c.from_residual.ensures.1 in
    h.1 ∙ ap (λ (r : Refusal). Err r) h.2
    ∙ answer-read (intake (lent a.models.now a.connectors.now a.couplings.now)) c.intake.result _ c.intake.ensures c.in_err-intake.was

pub returns : goal.returns
returns c =
    let a = c.args in
    answer-read (intake (lent a.models.now a.connectors.now a.couplings.now)) c.intake.result _ c.intake.ensures c.in_ok-intake.was
