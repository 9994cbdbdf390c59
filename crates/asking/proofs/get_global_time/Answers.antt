-- `asking::get_global_time` meets its contract: the lent part is the state's changing part, whose clock is a time. Assumes nothing.
use Prim.Native.Nat.{ℕ, ◌≤◌}
use mathlib.Core.Path.{sym, ap, ◌∙◌, subst}
use mathlib.Core.List.{List}
use native.Mathlib.Omega.{arith}
use lib.ListN.{length}
use lib.Dec.{T}
use Rattle.times.specs.Time.{is_time}
use Rattle.stepping.specs.Simulating.{clock_in}
use Rattle.storing.specs.StoredLaws.{stored_of}
use Rattle.asking.specs.AskLaws.{tail-lent}
use Rattle.asking.proofs.get_global_time.Goals as goal

pub tail_at-tail-requires : goal.tail_at-tail-requires
tail_at-tail-requires c =
    (stored_of c.args.state.now c.requires).inside

pub offset_bounds-state-tail : goal.offset_bounds-state-tail
offset_bounds-state-tail c =
    let stored = stored_of c.args.state.now c.requires in omega arith

pub slice_bounds-clock_at-count : goal.slice_bounds-clock_at-count
slice_bounds-clock_at-count c =
    let stored = stored_of c.args.state.now c.requires in omega arith

pub slice_bounds-clock_at-start : goal.slice_bounds-clock_at-start
slice_bounds-clock_at-start c =
    let stored = stored_of c.args.state.now c.requires in omega arith

pub clock_at-requires : goal.clock_at-requires
clock_at-requires c =
    let state = c.args.state.now in
    let stored = stored_of state c.requires in
    subst (λ (mem : List ℕ). (2 ≤ length mem) × T (is_time (clock_in mem))) (sym (tail-lent state c.tail_at-tail.result c.tail_at-tail.ensures)) (omega arith, stored.clock)

pub returns : goal.returns
returns c =
    c.clock_at.ensures ∙ ap clock_in (tail-lent c.args.state.now c.tail_at-tail.result c.tail_at-tail.ensures)
