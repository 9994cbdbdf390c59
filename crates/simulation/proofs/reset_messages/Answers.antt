-- `simulation::reset_messages` meets its contract. Assumes nothing.
use mathlib.Core.Path.{sym, ap, ◌∙◌}
use Rattle.rules.specs.Base.{Outcome}
use Rattle.rules.specs.Simulation.{Simulation}
use Rattle.rules.specs.Calls as Calls
use Rattle.storing.specs.Lent.{answered, left}
use Rattle.simulation.specs.CallLaws.{refused-20, stored, messages-done}
use Rattle.simulation.proofs.reset_messages.Goals as goal

pub returns-then-not-is_state : goal.returns-then-not-is_state
returns-then-not-is_state c =
    let e = refused-20 c.args.state.now (sym c.is_state.ensures ∙ c.if-not-is_state.true) Calls.reset_messages in
    record { answers = ap (λ (o : Outcome Simulation). answered o) (sym e); leaves = ap (left c.args.state.now) (sym e) }

pub reset_messages-requires : goal.reset_messages-requires
reset_messages-requires c =
    stored c.args.state.now (sym c.is_state.ensures ∙ c.if-not-is_state.false)

pub returns : goal.returns
returns c =
    let e = messages-done c.args.state.now (sym c.is_state.ensures ∙ c.if-not-is_state.false) in
    record { answers = ap (λ (o : Outcome Simulation). answered o) (sym e); leaves = c.reset_messages.ensures ∙ ap (left c.args.state.now) (sym e) }
