-- `host::jt_get_status` meets its contract. Assumes nothing.
use Prim.Native.Nat.{ℕ}
use mathlib.Core.Path.{ap, ◌∙◌}
use Rattle.std.specs.Prelude.{Ok, Err, Option, Some, None, Float}
use Rattle.rules.specs.Calls as Calls
use Rattle.storing.specs.Lent.{call_in}
use Rattle.asking.specs.declared.Status.{Status}
use Rattle.asking.specs.declared.Status.TheVariants as status
use Rattle.host.specs.Numbers.{said}
use Rattle.host.specs.NumberLaws.{status-told}
use Rattle.host.proofs.jt_get_status.Goals as goal

pub returns-in-Ok-Processor : goal.returns-in-Ok-Processor
returns-in-Ok-Processor c =
    let phase = c.in-Ok-Processor.phase in
    let h = status-told c.args.report.now (call_in (Calls.get_status c.args.id) c.args.state.now) c.get_status.result (Ok (status.Processor phase)) c.get_status.ensures (c.in-Ok-Processor.is ∙ ap (λ (s : Status). Ok s) c.in-Ok-Processor.field-0-is) in
    record { answers = c.say.ensures.answers ∙ h.0; tells = c.say.ensures.says ∙ ap (λ (w : ℕ). said 0 w c.args.report.now) c.processor_number.ensures ∙ h.1 }

pub returns-in-Ok-Batcher : goal.returns-in-Ok-Batcher
returns-in-Ok-Batcher c =
    let phase = c.in-Ok-Batcher.phase in
    let h = status-told c.args.report.now (call_in (Calls.get_status c.args.id) c.args.state.now) c.get_status.result (Ok (status.Batcher phase)) c.get_status.ensures (c.in-Ok-Batcher.is ∙ ap (λ (s : Status). Ok s) c.in-Ok-Batcher.field-0-is) in
    record { answers = c.say-in-Ok-Batcher.ensures.answers ∙ h.0; tells = c.say-in-Ok-Batcher.ensures.says ∙ ap (λ (w : ℕ). said 1 w c.args.report.now) c.batcher_number.ensures ∙ h.1 }

pub returns-in-Ok-Mean-Some : goal.returns-in-Ok-Mean-Some
returns-in-Ok-Mean-Some c =
    let mean = c.in-Ok-Mean-Some.mean in
    let h = status-told c.args.report.now (call_in (Calls.get_status c.args.id) c.args.state.now) c.get_status.result (Ok (status.Mean (Some mean))) c.get_status.ensures (c.in-Ok-Mean-Some.is ∙ ap (λ (s : Status). Ok s) (c.in-Ok-Mean-Some.field-0-is ∙ ap (λ (m : Option Float). status.Mean m) c.in-Ok-Mean-Some.field-0-0-is)) in
    record { answers = c.say-in-Ok-Mean-Some.ensures.answers ∙ h.0; tells = c.say-in-Ok-Mean-Some.ensures.says ∙ ap (λ (w : ℕ). said 2 w c.args.report.now) c.bits_of.ensures ∙ h.1 }

pub returns-in-Ok-Mean-None : goal.returns-in-Ok-Mean-None
returns-in-Ok-Mean-None c =
    let h = status-told c.args.report.now (call_in (Calls.get_status c.args.id) c.args.state.now) c.get_status.result (Ok (status.Mean None)) c.get_status.ensures (c.in-Ok-Mean-None.is ∙ ap (λ (s : Status). Ok s) (c.in-Ok-Mean-None.field-0-is ∙ ap (λ (m : Option Float). status.Mean m) c.in-Ok-Mean-None.field-0-0-is)) in
    record { answers = c.say-in-Ok-Mean-None.ensures.answers ∙ h.0; tells = c.say-in-Ok-Mean-None.ensures.says ∙ h.1 }

pub returns-in-Ok-Parked : goal.returns-in-Ok-Parked
returns-in-Ok-Parked c =
    let count = c.in-Ok-Parked.count in
    let h = status-told c.args.report.now (call_in (Calls.get_status c.args.id) c.args.state.now) c.get_status.result (Ok (status.Parked count)) c.get_status.ensures (c.in-Ok-Parked.is ∙ ap (λ (s : Status). Ok s) c.in-Ok-Parked.field-0-is) in
    record { answers = c.say-in-Ok-Parked.ensures.answers ∙ h.0; tells = c.say-in-Ok-Parked.ensures.says ∙ h.1 }

pub returns-in-Err : goal.returns-in-Err
returns-in-Err c =
    let refusal = c.in-Err.refusal in
    let h = status-told c.args.report.now (call_in (Calls.get_status c.args.id) c.args.state.now) c.get_status.result (Err refusal) c.get_status.ensures c.in-Err.is in
    record { answers = c.number.ensures ∙ h.0; tells = h.1 }
