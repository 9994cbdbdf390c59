-- `host::jt_get_messages` meets its contract. Assumes nothing.
use Rattle.std.specs.Prelude.{Err, Ok}
use mathlib.Core.Path.{◌∙◌}
use Rattle.rules.specs.Layout.{room_in}
use Rattle.rules.specs.Calls as Calls
use Rattle.storing.specs.Lent.{call_in}
use Rattle.host.specs.NumberLaws.{listing-told}
use Rattle.host.proofs.jt_get_messages.Goals as goal

pub returns-in-Ok : goal.returns-in-Ok
returns-in-Ok c =
    let n = c.in-Ok.n in
    let h = listing-told c.args.count.now (call_in (Calls.get_messages (room_in c.args.rows.now)) c.args.state.now) c.get_messages.result (Ok n) c.get_messages.ensures.answers c.in-Ok.is in
    record { answers = h.0; lays = c.get_messages.ensures.lays; tells = h.1 }

pub returns-in-Err : goal.returns-in-Err
returns-in-Err c =
    let refusal = c.in-Err.refusal in
    let h = listing-told c.args.count.now (call_in (Calls.get_messages (room_in c.args.rows.now)) c.args.state.now) c.get_messages.result (Err refusal) c.get_messages.ensures.answers c.in-Err.is in
    record { answers = c.number.ensures ∙ h.0; lays = c.get_messages.ensures.lays; tells = h.1 }
