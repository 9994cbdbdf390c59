-- `host::jt_step_n` meets its contract. Assumes nothing.
use mathlib.Core.Path.{◌∙◌}
use Rattle.rules.specs.Layout.{room_in}
use Rattle.rules.specs.Calls as Calls
use Rattle.storing.specs.Lent.{run_in}
use Rattle.host.specs.NumberLaws.{run-number, run-words}
use Rattle.host.proofs.jt_step_n.Goals as goal

pub returns : goal.returns
returns c = record { answers = c.tell.ensures.answers ∙ run-number c.step_n-told.result (run_in (Calls.step_n c.args.services.now (room_in c.args.rows.now) c.args.count) c.args.state.now) c.args.rows.now c.step_n-told.new.rows c.step_n-told.ensures.reports; tells = c.tell.ensures.tells ∙ run-words c.step_n-told.result (run_in (Calls.step_n c.args.services.now (room_in c.args.rows.now) c.args.count) c.args.state.now) c.args.rows.now c.step_n-told.new.rows c.step_n-told.ensures.reports c.args.report.now; leaves = c.step_n-told.ensures.leaves; lays = c.step_n-told.ensures.reports.rows }
