-- `asking::status_at` meets its contract: the lent part is the state's changing part. Assumes nothing.
use Prim.Native.Nat.{ℕ}
use mathlib.Core.Path.{sym, ap, ◌∙◌, subst}
use mathlib.Core.List.{List}
use native.Mathlib.Omega.{arith}
use Rattle.rules.specs.Simulation.{state_at}
use Rattle.rules.specs.Calls.{status_of}
use Rattle.lookup.specs.Inside.{table_in}
use Rattle.views.specs.World.{states_in, Ready}
use Rattle.storing.specs.StoredLaws.{stored_of}
use Rattle.asking.specs.Told.{status_told}
use Rattle.asking.specs.AskLaws.{tail-lent}
use Rattle.asking.proofs.status_at.Goals as goal

pub tail_at-tail-requires : goal.tail_at-tail-requires
tail_at-tail-requires c =
    (stored_of c.args.state.now c.requires.0).inside

pub offset_bounds-state-tail : goal.offset_bounds-state-tail
offset_bounds-state-tail c =
    let stored = stored_of c.args.state.now c.requires.0 in omega arith

pub slice_bounds-status_in-count : goal.slice_bounds-status_in-count
slice_bounds-status_in-count c =
    let stored = stored_of c.args.state.now c.requires.0 in omega arith

pub slice_bounds-status_in-start : goal.slice_bounds-status_in-start
slice_bounds-status_in-start c =
    let stored = stored_of c.args.state.now c.requires.0 in omega arith

pub status_in-requires : goal.status_in-requires
status_in-requires c =
    let state = c.args.state.now in
    let stored = stored_of state c.requires.0 in
    (stored.inside, subst (Ready (table_in state)) (sym (tail-lent state c.tail_at-tail.result c.tail_at-tail.ensures)) stored.ready, c.requires.1)

pub returns : goal.returns
returns c =
    let state = c.args.state.now in
    c.status_in.ensures ∙ ap (λ (mem : List ℕ). status_told (status_of (state_at (states_in (table_in state) mem) c.args.row))) (tail-lent state c.tail_at-tail.result c.tail_at-tail.ensures)
