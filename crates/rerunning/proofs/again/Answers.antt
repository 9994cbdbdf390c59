-- `rerunning::again` meets its contract. The loop: the words hold the simulation after so many steps. Assumes nothing.
use mathlib.Core.Path.{◌≡◌, refl, sym, ap, subst, ◌∙◌}
use native.Mathlib.Omega.{arith}
use Rattle.rules.specs.Base.{done}
use Rattle.lookup.specs.Inside.{table_in}
use Rattle.stepping.specs.Simulating.{sim_in}
use Rattle.rerunning.specs.Running.{sim_of, reached}
use Rattle.rerunning.specs.RunningLaws.{reached-on, never-stops, stepped, not_stepped}
use Rattle.rerunning.proofs.again.Goals as goal

pub loop-completed-init : goal.loop-completed-init
loop-completed-init c =
    (refl, c.load.ensures.sound, ap done (sym c.load.ensures.loads), omega arith)

pub returns-then-is_err : goal.returns-then-is_err
returns-then-is_err c =
    let a = c.args in
    let t = table_in a.state.now in
    let loop = c.loop-completed in
    let q = not_stepped a.services.now t loop.mem c.step.new.mem c.step.result (sym c.is_err.ensures.value ∙ c.if-is_err.true) c.step.ensures.steps in
    absurd (never-stops t a.services.now (sim_of a.state.now) loop._completed a.steps (sim_in t loop.mem) q.0 c.loop-completed-test.true c.requires.3 loop.invariant.2 q.1)

pub loop-completed-preserved : goal.loop-completed-preserved
loop-completed-preserved c =
    let a = c.args in
    let t = table_in a.state.now in
    let loop = c.loop-completed in
    let w = stepped a.services.now t loop.mem c.step.new.mem c.step.result (sym c.is_err.ensures.value ∙ c.if-is_err.false) c.step.ensures.steps in (
      c.step.auto.mem ∙ loop.invariant.0,
      w.sound,
      reached-on t a.services.now (sim_of a.state.now) loop._completed (sim_in t loop.mem) (sim_in t c.step.new.mem) w.log loop.invariant.2 w.is,
      omega (arith, c.loop-completed-test.true),
    )

pub returns : goal.returns
returns c =
    let a = c.args in
    let t = table_in a.state.now in
    let loop = c.loop-completed in
    let e : loop._completed ≡ a.steps = omega (arith, c.loop-completed-test.false, loop.invariant.3) in
    record { again = subst (λ n. reached t a.services.now n (sim_of a.state.now) ≡ done (sim_in t loop.mem)) e loop.invariant.2; sound = loop.invariant.1; long = loop.invariant.0 ∙ c.load.ensures.long }
