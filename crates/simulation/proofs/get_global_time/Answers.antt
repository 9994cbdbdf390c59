-- `simulation::get_global_time` meets its contract. Assumes nothing.
use mathlib.Core.Path.{sym, ap, ◌∙◌}
use lib.Ieee.{Float}
use Rattle.rules.specs.Base.{done}
use Rattle.rules.specs.Calls as Calls
use Rattle.simulation.specs.Answers.{time_told}
use Rattle.simulation.specs.CallLaws.{refused-20, stored, clock-done}
use Rattle.simulation.proofs.get_global_time.Goals as goal

pub returns-then-not-is_state : goal.returns-then-not-is_state
returns-then-not-is_state c =
    ap time_told (sym (refused-20 c.args.state.now (sym c.is_state.ensures ∙ c.if-not-is_state.true) Calls.get_global_time))

pub get_global_time-requires : goal.get_global_time-requires
get_global_time-requires c =
    stored c.args.state.now (sym c.is_state.ensures ∙ c.if-not-is_state.false)

pub returns : goal.returns
returns c =
    ap (λ (x : Float). time_told (done x)) c.get_global_time.ensures ∙ ap time_told (sym (clock-done c.args.state.now (sym c.is_state.ensures ∙ c.if-not-is_state.false)))
