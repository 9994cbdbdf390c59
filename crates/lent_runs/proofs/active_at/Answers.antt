-- `lent_runs::active_at` meets its contract. Assumes nothing.
use Prim.Native.Nat.{ℕ, ◌-◌}
use mathlib.Core.Path.{◌≡◌, sym, ap, ◌∙◌, subst}
use native.Mathlib.Omega.{arith}
use lib.ListN.{length, take, drop}
use Rattle.lookup.specs.Inside.{table_in}
use Rattle.views.specs.World.{Laid}
use Rattle.rerunning.specs.Running.{tail_in}
use Rattle.engine.specs.RunLaws.{to_end}
use Rattle.storing.specs.StoredLaws.{stored_of}
use Rattle.lent_runs.proofs.active_at.Goals as goal

pub tail_at-tail-requires : goal.tail_at-tail-requires
tail_at-tail-requires c =
    (stored_of c.args.state.now c.requires).inside

pub offset_bounds-state-tail : goal.offset_bounds-state-tail
offset_bounds-state-tail c =
    omega (arith, (stored_of c.args.state.now c.requires).inside.room)

pub slice_bounds-end_of-count : goal.slice_bounds-end_of-count
slice_bounds-end_of-count c =
    omega (arith, (stored_of c.args.state.now c.requires).inside.room)

pub slice_bounds-end_of-start : goal.slice_bounds-end_of-start
slice_bounds-end_of-start c =
    omega (arith, (stored_of c.args.state.now c.requires).inside.room)

pub end_of-requires : goal.end_of-requires
end_of-requires c =
    let state = c.args.state.now in
    let stored = stored_of state c.requires in
    let lent : take (length state - c.tail_at-tail.result) (drop c.tail_at-tail.result state) ≡ tail_in state = to_end c.tail_at-tail.result state ∙ ap (λ (k : ℕ). drop k state) c.tail_at-tail.ensures in
    (stored.inside, subst (Laid (table_in state)) (sym lent) stored.ready.laid)
