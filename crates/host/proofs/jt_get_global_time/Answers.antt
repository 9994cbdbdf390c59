-- `host::jt_get_global_time` meets its contract. Assumes nothing.
use Rattle.std.specs.Prelude.{Err, Ok}
use mathlib.Core.Path.{◌∙◌}
use Rattle.rules.specs.Calls as Calls
use Rattle.storing.specs.Lent.{call_in}
use Rattle.host.specs.NumberLaws.{clock-told}
use Rattle.host.proofs.jt_get_global_time.Goals as goal

pub returns-in-Ok : goal.returns-in-Ok
returns-in-Ok c =
    let x = c.in-Ok.clock in
    let h = clock-told c.args.time.now (call_in Calls.get_global_time c.args.state.now) c.get_global_time.result (Ok x) c.get_global_time.ensures c.in-Ok.is in
    record { answers = h.0; tells = h.1 }

pub returns-in-Err : goal.returns-in-Err
returns-in-Err c =
    let refusal = c.in-Err.refusal in
    let h = clock-told c.args.time.now (call_in Calls.get_global_time c.args.state.now) c.get_global_time.result (Err refusal) c.get_global_time.ensures c.in-Err.is in
    record { answers = c.number.ensures ∙ h.0; tells = h.1 }
