-- `simulation::inject_input` meets its contract. Assumes nothing.
use native.Mathlib.Omega.{arith}
use mathlib.Core.Path.{sym, ap, ◌∙◌}
use Rattle.rules.specs.Base.{Outcome}
use Rattle.rules.specs.Simulation.{Simulation}
use Rattle.rules.specs.Calls as Calls
use Rattle.storing.specs.Lent.{answered, left}
use Rattle.simulation.specs.CallLaws.{refused-20, stored, injected-10, injected-8, injected}
use Rattle.simulation.proofs.inject_input.Goals as goal

pub returns-then-not-is_state : goal.returns-then-not-is_state
returns-then-not-is_state c =
    let e = refused-20 c.args.state.now (sym c.is_state.ensures ∙ c.if-not-is_state.true) (Calls.inject_input c.args.message) in
    record { answers = ap (λ (o : Outcome Simulation). answered o) (sym e); leaves = ap (left c.args.state.now) (sym e) }

pub returns-then-not-is_time : goal.returns-then-not-is_time
returns-then-not-is_time c =
    let bad = sym c.is_time.ensures ∙ c.if-not-is_time.true in
    let e = injected-10 c.args.state.now (sym c.is_state.ensures ∙ c.if-not-is_state.false) c.args.message bad in
    record { answers = ap (λ (o : Outcome Simulation). answered o) (sym e); leaves = ap (left c.args.state.now) (sym e) }

pub active_count-requires : goal.active_count-requires
active_count-requires c =
    stored c.args.state.now (sym c.is_state.ensures ∙ c.if-not-is_state.false)

pub returns-then-active_count-ge256 : goal.returns-then-active_count-ge256
returns-then-active_count-ge256 c =
    let good = sym c.is_time.ensures ∙ c.if-not-is_time.false in
    let e = injected-8 c.args.state.now (sym c.is_state.ensures ∙ c.if-not-is_state.false) c.args.message good (omega (arith, c.active_count.ensures, c.if-active_count-ge256.true)) in
    record { answers = ap (λ (o : Outcome Simulation). answered o) (sym e); leaves = ap (left c.args.state.now) (sym e) }

pub inject_input-requires : goal.inject_input-requires
inject_input-requires c =
    (stored c.args.state.now (sym c.is_state.ensures ∙ c.if-not-is_state.false), omega (arith, c.active_count.ensures, c.if-active_count-ge256.false))

pub returns : goal.returns
returns c =
    let good = sym c.is_time.ensures ∙ c.if-not-is_time.false in
    let e = injected c.args.state.now (sym c.is_state.ensures ∙ c.if-not-is_state.false) c.args.message good (omega (arith, c.active_count.ensures, c.if-active_count-ge256.false)) in
    record { answers = ap (λ (o : Outcome Simulation). answered o) (sym e); leaves = c.inject_input.ensures ∙ ap (left c.args.state.now) (sym e) }
