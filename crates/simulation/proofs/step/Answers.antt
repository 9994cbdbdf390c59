-- `simulation::step` meets its contract. Assumes nothing.
use mathlib.Core.Path.{ap, subst, ◌∙◌}
use Rattle.rules.specs.Layout.{room_in}
use Rattle.rules.specs.Calls.{Ran}
use Rattle.storing.specs.Lent.{left_by_run}
use Rattle.lent_runs.specs.Reported.{Reported}
use Rattle.simulation.specs.CallLaws.{step_run}
use Rattle.simulation.proofs.step.Goals as goal

pub returns : goal.returns
returns c =
    let e = step_run c.args.services.now (room_in c.args.rows.now) c.args.state.now in
    record { reports = subst (λ (ran : Ran). Reported c.step_n.result ran c.args.rows.now c.step_n.new.rows) e c.step_n.ensures.reports; leaves = c.step_n.ensures.leaves ∙ ap (left_by_run c.args.state.now) e }
