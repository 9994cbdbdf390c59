-- `simulation::step_until` meets its contract. Assumes nothing.
use mathlib.Core.Path.{sym, ◌∙◌}
use Rattle.rules.specs.Layout.{room_in}
use Rattle.rules.specs.Calls as Calls
use Rattle.storing.specs.Lent.{run_in}
use Rattle.simulation.specs.CallLaws.{left-20, told-20, told-on, leaves-on, stored}
use Rattle.simulation.proofs.step_until.Goals as goal

pub returns-then-not-is_state : goal.returns-then-not-is_state
returns-then-not-is_state c = record { reports = told-20 c.args.state.now (sym c.is_state.ensures ∙ c.if-not-is_state.true) (Calls.step_until c.args.services.now c.args.until (room_in c.args.rows.now) c.args.allowance) c.refused.result c.args.rows.now c.refused.ensures; leaves = sym (left-20 c.args.state.now (sym c.is_state.ensures ∙ c.if-not-is_state.true) (run_in (Calls.step_until c.args.services.now c.args.until (room_in c.args.rows.now) c.args.allowance) c.args.state.now)) }

pub run-requires : goal.run-requires
run-requires c =
    (stored c.args.state.now (sym c.is_state.ensures ∙ c.if-not-is_state.false), tt)

pub returns : goal.returns
returns c = record { reports = told-on c.args.state.now (sym c.is_state.ensures ∙ c.if-not-is_state.false) (Calls.step_until c.args.services.now c.args.until (room_in c.args.rows.now) c.args.allowance) c.run.result c.args.rows.now c.run.new.rows c.run.ensures.reports; leaves = c.run.ensures.leaves ∙ leaves-on c.args.state.now (sym c.is_state.ensures ∙ c.if-not-is_state.false) (Calls.step_until c.args.services.now c.args.until (room_in c.args.rows.now) c.args.allowance) }
