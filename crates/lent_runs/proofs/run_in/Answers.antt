-- `lent_runs::run_in` meets its contract. Assumes nothing.
use mathlib.Core.Path.{ap, ◌∙◌}
use Rattle.rules.specs.Layout.{room_in}
use Rattle.rules.specs.Calls.{steps_until}
use Rattle.rerunning.specs.Running.{sim_of}
use Rattle.storing.specs.State.{kept}
use Rattle.storing.specs.StoredLaws.{stored_of}
use Rattle.lent_runs.specs.BackLaws.{none-held, told-reports}
use Rattle.lent_runs.proofs.run_in.Goals as goal

pub run-report-requires : goal.run-report-requires
run-report-requires c =
    (stored_of c.args.state.now c.requires.0, c.requires.1, none-held c.args.mem.now c.requires.2, c.requires.3)

pub returns : goal.returns
returns c =
    let told = c.run-report.ensures.told in
    record { reports = told-reports c.run-report.result (steps_until c.args.services.now c.args.until (room_in c.args.rows.now) c.args.bound (sim_of c.args.state.now)) c.args.state.now c.run-report.new.mem c.args.rows.now c.run-report.new.rows told; leaves = c.write_back.ensures ∙ ap (kept c.args.state.now) told.sim }
