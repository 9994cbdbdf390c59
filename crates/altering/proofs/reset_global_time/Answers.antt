-- `altering::reset_global_time` meets its contract. Assumes nothing.
use Prim.Native.Nat.{ℕ, ◌+◌, ◌≤◌}
use mathlib.Core.Path.{ap, ◌∙◌}
use native.Mathlib.Omega.{arith}
use lib.ListN.{length, set}
use Rattle.storing.specs.StoredLaws.{stored_of, tail-room}
use Rattle.altering.specs.AlteredLaws.{at_zero}
use Rattle.altering.proofs.reset_global_time.Goals as goal

pub tail_at-clock-requires : goal.tail_at-clock-requires
tail_at-clock-requires c =
    (stored_of c.args.state.now c.requires).inside

pub overflow_add-clock : goal.overflow_add-clock
overflow_add-clock c =
    let inside : c.tail_at-clock.result + 1536 ≤ length c.args.state.now = omega (arith, tail-room c.args.state.now c.requires, c.tail_at-clock.ensures) in
    omega (arith, inside, c.well_formed)

pub offset_bounds-state-clock : goal.offset_bounds-state-clock
offset_bounds-state-clock c =
    let inside : c.tail_at-clock.result + 1536 ≤ length c.args.state.now = omega (arith, tail-room c.args.state.now c.requires, c.tail_at-clock.ensures) in
    omega (arith, inside, c.well_formed)

pub bounds-state-clock : goal.bounds-state-clock
bounds-state-clock c =
    let inside : c.tail_at-clock.result + 1536 ≤ length c.args.state.now = omega (arith, tail-room c.args.state.now c.requires, c.tail_at-clock.ensures) in
    omega (arith, inside, c.well_formed)

pub returns : goal.returns
returns c =
    let state = c.args.state.now in
    ap (λ (p : ℕ). set state (p + 1) 0) c.tail_at-clock.ensures ∙ at_zero state c.requires
