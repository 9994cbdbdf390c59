-- `engine::run` meets its contract. The loop: the steps taken and the rest from the words as they stand are the whole run. Assumes nothing.
use mathlib.Core.Path.{◌≡◌, refl, sym, subst, ◌∙◌}
use mathlib.Core.List.{List}
use native.Mathlib.Omega.{arith}
use Rattle.rules.specs.declared.Message.{Message}
use Rattle.rules.specs.Ends.{All}
use Rattle.rules.specs.Layout.{room_in}
use Rattle.rules.proofs.Worlds.{MessageFits}
use Rattle.lookup.specs.Inside.{table_in}
use Rattle.views.specs.Messages.{messages_in}
use Rattle.stepping.specs.Simulating.{active_in}
use Rattle.rerunning.specs.Running.{sim_of}
use Rattle.engine.specs.declared.End.TheVariants as end
use Rattle.engine.specs.Telling.{Told}
use Rattle.rules.specs.Calls.{steps_until}
use Rattle.engine.specs.RunLaws.{starts, goes_on, arrives, refuses, spent}
use Rattle.engine.proofs.run.Goals as goal

pub loop-steps-init : goal.loop-steps-init
loop-steps-init c =
    let a = c.args in
    let state = a.state.now in (
      omega arith,
      refl,
      refl,
      starts a.services.now a.until (room_in a.rows.now) a.bound (table_in state) (sim_of state) a.rows.now c.begin-active.new.mem c.begin-active.ensures.loads c.begin-active.ensures.sound,
    )

pub collect-requires : goal.collect-requires
collect-requires c =
    let n = c.in-Ok-Some.count in
    let after = c.next_step.new.mem in
    let g = (rw c.in-Ok-Some.field-0-is at c.in-Ok-Some.ensures).nexts in
    let is = g.count in
    let begins = c.begin-active.ensures.begins in
    let same : messages_in c.begin-active.result n after ≡ active_in (table_in c.args.state.now) after = (λ i. messages_in (begins i) (is i) after) in (
      (omega (arith, is, g.sound.few)),
      (let r = g.sound.room in omega (arith, r, begins)),
      (let l = c.loop-steps.invariant.2 in omega (arith, l, g.few, c.loop-steps.invariant.3.few)),
      subst (λ (ms : List Message). All MessageFits ms) (sym same) g.sound.active,
    )

pub overflow_add-written : goal.overflow_add-written
overflow_add-written c =
    let g = (rw c.in-Ok-Some.field-0-is at c.in-Ok-Some.ensures).nexts in
    omega (arith, g.few, c.loop-steps.invariant.3.few, c.well_formed.1.1.1.1.1.0.0)

pub loop-steps-preserved : goal.loop-steps-preserved
loop-steps-preserved c =
    let g = (rw c.in-Ok-Some.field-0-is at c.in-Ok-Some.ensures).nexts in
    let a = c.args in
    let state = a.state.now in (
      omega (arith, c.loop-steps-test.true),
      c.next_step.ensures.long ∙ c.loop-steps.invariant.1,
      c.collect.auto.rows ∙ c.loop-steps.invariant.2,
      goes_on a.services.now a.until (room_in a.rows.now) a.bound (table_in state) (sim_of state) a.rows.now c.loop-steps.mem c.loop-steps.rows c.loop-steps.steps c.loop-steps.written c.loop-steps.invariant.3
          c.in-Ok-Some.count c.begin-active.result c.next_step.new.mem c.collect.new.rows c.loop-steps-test.true c.begin-active.ensures.begins g c.collect.ensures,
    )

pub returns-in-Ok-None : goal.returns-in-Ok-None
returns-in-Ok-None c =
    let g = (rw c.in-Ok-None.field-0-is at c.in-Ok-None.ensures).nexts in
    let a = c.args in
    let state = a.state.now in
    record { told = arrives a.services.now a.until (room_in a.rows.now) a.bound (table_in state) (sim_of state) a.rows.now c.loop-steps.mem c.loop-steps.rows c.loop-steps.steps c.loop-steps.written c.loop-steps.invariant.3 c.next_step.new.mem c.loop-steps-test.true g }

pub returns-in-Err : goal.returns-in-Err
returns-in-Err c =
    let a = c.args in
    let state = a.state.now in
    record { told = refuses a.services.now a.until (room_in a.rows.now) a.bound (table_in state) (sim_of state) a.rows.now c.loop-steps.mem c.loop-steps.rows c.loop-steps.steps c.loop-steps.written c.loop-steps.invariant.3 c.in-Err.refusal c.next_step.new.mem c.loop-steps-test.true c.in-Err.ensures.nexts }

pub returns : goal.returns
returns c =
    let a = c.args in
    let state = a.state.now in
    let t = table_in state in
    let room = room_in a.rows.now in
    let loop = c.loop-steps in
    let e : loop.steps ≡ a.bound = omega (arith, c.loop-steps-test.false, loop.invariant.0) in
    let all = spent a.services.now a.until room a.bound t (sim_of state) a.rows.now c.loop-steps.mem c.loop-steps.rows c.loop-steps.steps c.loop-steps.written c.loop-steps.invariant.3 c.loop-steps-test.false in
    record { told = subst (λ n. Told (record { steps = n; written = loop.written; end = end.Spent }) (steps_until a.services.now a.until room a.bound (sim_of state)) t loop.mem a.rows.now loop.rows) e all }
