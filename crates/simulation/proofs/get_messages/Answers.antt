-- `simulation::get_messages` meets its contract. Assumes nothing.
use Rattle.std.specs.Prelude.{Ok}
use native.Mathlib.Omega.{arith}
use mathlib.Core.Path.{sym, ap, ◌∙◌}
use Prim.Native.Nat.{ℕ}
use Rattle.rules.specs.Layout.{room_in}
use Rattle.rules.specs.Calls as Calls
use Rattle.storing.specs.Lent.{listed}
use Rattle.simulation.specs.Answers.{count_told}
use Rattle.simulation.specs.CallLaws.{refused-20, stored, listed-done, listed-13}
use Rattle.simulation.proofs.get_messages.Goals as goal

pub returns-then-not-is_state : goal.returns-then-not-is_state
returns-then-not-is_state c =
    let e = refused-20 c.args.state.now (sym c.is_state.ensures ∙ c.if-not-is_state.true) (Calls.get_messages (room_in c.args.rows.now)) in
    record { answers = ap count_told (sym e); lays = ap (listed c.args.rows.now) (sym e) }

pub active_count-requires : goal.active_count-requires
active_count-requires c =
    stored c.args.state.now (sym c.is_state.ensures ∙ c.if-not-is_state.false)

pub returns-then-rows-active_count : goal.returns-then-rows-active_count
returns-then-rows-active_count c =
    let e = listed-13 c.args.state.now (sym c.is_state.ensures ∙ c.if-not-is_state.false) (room_in c.args.rows.now) (omega (arith, c.active_count.ensures, c.if-rows-active_count.true)) in
    record { answers = ap count_told (sym e); lays = ap (listed c.args.rows.now) (sym e) }

pub get_messages-requires : goal.get_messages-requires
get_messages-requires c =
    (stored c.args.state.now (sym c.is_state.ensures ∙ c.if-not-is_state.false), omega (arith, c.active_count.ensures, c.if-rows-active_count.false))

pub returns : goal.returns
returns c =
    let e = listed-done c.args.state.now (sym c.is_state.ensures ∙ c.if-not-is_state.false) (room_in c.args.rows.now) (omega (arith, c.active_count.ensures, c.if-rows-active_count.false)) in
    record { answers = ap (λ (n : ℕ). Ok n) c.get_messages.ensures.counts ∙ ap count_told (sym e); lays = c.get_messages.ensures.lays ∙ ap (listed c.args.rows.now) (sym e) }
