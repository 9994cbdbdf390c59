-- `host::jt_intake` meets its contract, by intake's verdict. Assumes nothing.
use Rattle.std.specs.Prelude.{Ok, Err}
use Prim.Native.Nat.{ℕ}
use mathlib.Core.Path.{ap, ◌∙◌}
use Rattle.rules.specs.Intake.{intake}
use Rattle.rules.specs.Layout.{lent, omitted_in}
use Rattle.table.specs.declared.BadTable.{BadTable}
use Rattle.table.specs.declared.BadTable.TheVariants as bad
use Rattle.host.specs.Numbers.{reported}
use Rattle.host.specs.NumberLaws.{verdict-told}
use Rattle.host.proofs.jt_intake.Goals as goal

pub returns-in-Err-TooLarge : goal.returns-in-Err-TooLarge
returns-in-Err-TooLarge c =
    let a = c.args in
    let h = verdict-told (omitted_in a.models.now) a.report.now (intake (lent a.models.now a.connectors.now a.couplings.now)) c.intake.result (Err bad.TooLarge) c.intake.ensures (c.in-Err-TooLarge.is ∙ ap (λ (b : BadTable). Err b) c.in-Err-TooLarge.field-0-is) in
    record { answers = c.place-in-Err-TooLarge.ensures.answers ∙ h.0; tells = c.place-in-Err-TooLarge.ensures.tells ∙ h.1 }

pub returns-in-Err-Row : goal.returns-in-Err-Row
returns-in-Err-Row c =
    let a = c.args in
    let h = verdict-told (omitted_in a.models.now) a.report.now (intake (lent a.models.now a.connectors.now a.couplings.now)) c.intake.result (Err (bad.Row c.in-Err-Row.row)) c.intake.ensures (c.in-Err-Row.is ∙ ap (λ (b : BadTable). Err b) c.in-Err-Row.field-0-is) in
    record { answers = c.place-in-Err-Row.ensures.answers ∙ h.0; tells = c.place-in-Err-Row.ensures.tells ∙ h.1 }

pub returns-in-Err-Connector : goal.returns-in-Err-Connector
returns-in-Err-Connector c =
    let a = c.args in
    let h = verdict-told (omitted_in a.models.now) a.report.now (intake (lent a.models.now a.connectors.now a.couplings.now)) c.intake.result (Err (bad.Connector c.in-Err-Connector.row)) c.intake.ensures (c.in-Err-Connector.is ∙ ap (λ (b : BadTable). Err b) c.in-Err-Connector.field-0-is) in
    record { answers = c.place-in-Err-Connector.ensures.answers ∙ h.0; tells = c.place-in-Err-Connector.ensures.tells ∙ h.1 }

pub returns-in-Err-Coupling : goal.returns-in-Err-Coupling
returns-in-Err-Coupling c =
    let a = c.args in
    let h = verdict-told (omitted_in a.models.now) a.report.now (intake (lent a.models.now a.connectors.now a.couplings.now)) c.intake.result (Err (bad.Coupling c.in-Err-Coupling.row)) c.intake.ensures (c.in-Err-Coupling.is ∙ ap (λ (b : BadTable). Err b) c.in-Err-Coupling.field-0-is) in
    record { answers = c.place-in-Err-Coupling.ensures.answers ∙ h.0; tells = c.place-in-Err-Coupling.ensures.tells ∙ h.1 }

pub returns-in-Ok : goal.returns-in-Ok
returns-in-Ok c =
    let a = c.args in
    let h = verdict-told (omitted_in a.models.now) a.report.now (intake (lent a.models.now a.connectors.now a.couplings.now)) c.intake.result (Ok tt) c.intake.ensures c.in-Ok.is in
    record { answers = c.place.ensures.answers ∙ h.0; tells = c.place.ensures.tells ∙ ap (λ (w : ℕ). reported 0 0 w a.report.now) c.omitted.ensures ∙ h.1 }
