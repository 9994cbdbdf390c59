-- `altering::reset` meets its contract. Assumes nothing.
use Prim.Native.Nat.{ℕ, ◌+◌, ◌≤◌}
use mathlib.Core.Path.{ap, ◌∙◌}
use native.Mathlib.Omega.{arith}
use lib.ListN.{length, set, length-set}
use Rattle.storing.specs.StoredLaws.{stored_of, tail-room}
use Rattle.altering.specs.AlteredLaws.{both-cleared}
use Rattle.altering.proofs.reset.Goals as goal

pub tail_at-tail-requires : goal.tail_at-tail-requires
tail_at-tail-requires c =
    (stored_of c.args.state.now c.requires).inside

pub offset_bounds-state-tail : goal.offset_bounds-state-tail
offset_bounds-state-tail c =
    let inside : c.tail_at-tail.result + 1536 ≤ length c.args.state.now = omega (arith, tail-room c.args.state.now c.requires, c.tail_at-tail.ensures) in
    omega (arith, inside, c.well_formed)

pub bounds-state-tail : goal.bounds-state-tail
bounds-state-tail c =
    let inside : c.tail_at-tail.result + 1536 ≤ length c.args.state.now = omega (arith, tail-room c.args.state.now c.requires, c.tail_at-tail.ensures) in
    omega (arith, inside, c.well_formed)

pub overflow_add-state : goal.overflow_add-state
overflow_add-state c =
    let inside : c.tail_at-tail.result + 1536 ≤ length c.args.state.now = omega (arith, tail-room c.args.state.now c.requires, c.tail_at-tail.ensures) in
    omega (arith, inside, c.well_formed)

pub offset_bounds-state-tail-2 : goal.offset_bounds-state-tail-2
offset_bounds-state-tail-2 c =
    let inside : c.tail_at-tail.result + 1536 ≤ length c.args.state.now = omega (arith, tail-room c.args.state.now c.requires, c.tail_at-tail.ensures) in
    omega (arith, inside, c.well_formed)

pub bounds-state-tail-2 : goal.bounds-state-tail-2
bounds-state-tail-2 c =
    let inside : c.tail_at-tail.result + 1536 ≤ length c.args.state.now = omega (arith, tail-room c.args.state.now c.requires, c.tail_at-tail.ensures) in
    simp length-set (omega (arith, inside))

pub returns : goal.returns
returns c =
    let state = c.args.state.now in
    ap (λ (p : ℕ). set (set state p 0) (p + 1) 0) c.tail_at-tail.ensures ∙ both-cleared state c.requires
