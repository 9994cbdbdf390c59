-- `host::jt_step_until` meets its contract. Assumes nothing.
use mathlib.Core.Path.{◌∙◌}
use Rattle.rules.specs.Layout.{room_in}
use Rattle.rules.specs.Calls as Calls
use Rattle.storing.specs.Lent.{run_in}
use Rattle.host.specs.NumberLaws.{run-number, run-words}
use Rattle.host.proofs.jt_step_until.Goals as goal

pub returns : goal.returns
returns c = record { answers = c.tell.ensures.answers ∙ run-number c.step_until-told.result (run_in (Calls.step_until c.args.services.now c.args.until (room_in c.args.rows.now) c.args.allowance) c.args.state.now) c.args.rows.now c.step_until-told.new.rows c.step_until-told.ensures.reports; tells = c.tell.ensures.tells ∙ run-words c.step_until-told.result (run_in (Calls.step_until c.args.services.now c.args.until (room_in c.args.rows.now) c.args.allowance) c.args.state.now) c.args.rows.now c.step_until-told.new.rows c.step_until-told.ensures.reports c.args.report.now; leaves = c.step_until-told.ensures.leaves; lays = c.step_until-told.ensures.reports.rows }
