-- `altering::reset_messages` meets its contract. Assumes nothing.
use Prim.Native.Nat.{ℕ}
use mathlib.Core.Path.{ap, ◌∙◌}
use native.Mathlib.Omega.{arith}
use lib.ListN.{set}
use Rattle.storing.specs.StoredLaws.{stored_of, tail-room}
use Rattle.altering.specs.AlteredLaws.{without-messages}
use Rattle.altering.proofs.reset_messages.Goals as goal

pub tail_at-tail-requires : goal.tail_at-tail-requires
tail_at-tail-requires c =
    (stored_of c.args.state.now c.requires).inside

pub offset_bounds-state-tail : goal.offset_bounds-state-tail
offset_bounds-state-tail c =
    let room = tail-room c.args.state.now c.requires in
    let e = c.tail_at-tail.ensures in
    omega (arith, room, e, c.well_formed)

pub bounds-state-tail : goal.bounds-state-tail
bounds-state-tail c =
    let room = tail-room c.args.state.now c.requires in
    let e = c.tail_at-tail.ensures in
    omega (arith, room, e, c.well_formed)

pub returns : goal.returns
returns c =
    let state = c.args.state.now in
    ap (λ (p : ℕ). set state p 0) c.tail_at-tail.ensures ∙ without-messages state c.requires
