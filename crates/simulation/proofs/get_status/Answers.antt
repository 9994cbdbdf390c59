-- `simulation::get_status` meets its contract. Assumes nothing.
use mathlib.Core.Path.{sym, ap, ◌∙◌}
use Rattle.rules.specs.Calls as Calls
use Rattle.asking.specs.Told.{status_answered}
use Rattle.simulation.specs.CallLaws.{refused-20, called, stored}
use Rattle.simulation.proofs.get_status.Goals as goal

pub returns-then-not-is_state : goal.returns-then-not-is_state
returns-then-not-is_state c =
    ap status_answered (sym (refused-20 c.args.state.now (sym c.is_state.ensures ∙ c.if-not-is_state.true) (Calls.get_status c.args.id)))

pub get_status-requires : goal.get_status-requires
get_status-requires c =
    stored c.args.state.now (sym c.is_state.ensures ∙ c.if-not-is_state.false)

pub returns : goal.returns
returns c =
    c.get_status.ensures ∙ ap status_answered (sym (called c.args.state.now (sym c.is_state.ensures ∙ c.if-not-is_state.false) (Calls.get_status c.args.id)))
