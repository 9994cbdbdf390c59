-- `altering::inject_input` meets its contract. Assumes nothing.
use Prim.Native.Nat.{ℕ, ◌+◌, ◌*◌, ◌≤◌}
use mathlib.Core.Path.{◌≡◌, ap, ◌∙◌}
use mathlib.Core.List.{List, ◌++◌}
use native.Mathlib.Omega.{arith}
use lib.ListN.{length, set, take, drop, length-drop}
use Rattle.rules.specs.Layout.{written}
use Rattle.lookup.specs.Inside.{tail_at, table_in}
use Rattle.views.specs.World.{end_of}
use Rattle.copying.specs.Copied.{copied}
use Rattle.rerunning.specs.Running.{sim_of}
use Rattle.engine.specs.RunLaws.{to_end, put-at-end}
use Rattle.storing.specs.StoredLaws.{stored_of, tail-room}
use Rattle.altering.specs.AlteredLaws.{one_more}
use borrow.Author.Rules.{rules}
use Rattle.altering.proofs.inject_input.Goals as goal

pub tail_at-tail-requires : goal.tail_at-tail-requires
tail_at-tail-requires c =
    (stored_of c.args.state.now c.requires.0).inside

pub overflow_add-end : goal.overflow_add-end
overflow_add-end c =
    let fits : c.messages_at.result + c.active_count-count.result * 6 + 6 ≤ length c.args.state.now = omega (arith, tail-room c.args.state.now c.requires.0, c.requires.1, c.messages_at.ensures, c.active_count-count.ensures) in
    omega (arith, fits, c.well_formed)

pub offset_bounds-state-end : goal.offset_bounds-state-end
offset_bounds-state-end c =
    let fits : c.messages_at.result + c.active_count-count.result * 6 + 6 ≤ length c.args.state.now = omega (arith, tail-room c.args.state.now c.requires.0, c.requires.1, c.messages_at.ensures, c.active_count-count.ensures) in
    omega (arith, fits, c.well_formed)

pub slice_bounds-copy-count : goal.slice_bounds-copy-count
slice_bounds-copy-count c =
    let fits : c.messages_at.result + c.active_count-count.result * 6 + 6 ≤ length c.args.state.now = omega (arith, tail-room c.args.state.now c.requires.0, c.requires.1, c.messages_at.ensures, c.active_count-count.ensures) in
    omega (arith, fits, c.well_formed)

pub slice_bounds-copy-start : goal.slice_bounds-copy-start
slice_bounds-copy-start c =
    let fits : c.messages_at.result + c.active_count-count.result * 6 + 6 ≤ length c.args.state.now = omega (arith, tail-room c.args.state.now c.requires.0, c.requires.1, c.messages_at.ensures, c.active_count-count.ensures) in
    omega (arith, fits, c.well_formed)

pub copy-requires : goal.copy-requires
copy-requires c =
    let fits : c.messages_at.result + c.active_count-count.result * 6 + 6 ≤ length c.args.state.now = omega (arith, tail-room c.args.state.now c.requires.0, c.requires.1, c.messages_at.ensures, c.active_count-count.ensures) in
    (search rules, let room = fits in simp (to_end, length-drop) (omega arith))

pub offset_bounds-state-tail : goal.offset_bounds-state-tail
offset_bounds-state-tail c =
    let fits : c.messages_at.result + c.active_count-count.result * 6 + 6 ≤ length c.args.state.now = omega (arith, tail-room c.args.state.now c.requires.0, c.requires.1, c.messages_at.ensures, c.active_count-count.ensures) in
    omega (arith, fits, c.messages_at.ensures, c.tail_at-tail.ensures, c.well_formed)

pub bounds-state-tail : goal.bounds-state-tail
bounds-state-tail c =
    let fits : c.messages_at.result + c.active_count-count.result * 6 + 6 ≤ length c.args.state.now = omega (arith, tail-room c.args.state.now c.requires.0, c.requires.1, c.messages_at.ensures, c.active_count-count.ensures) in
    omega (arith, fits, c.messages_at.ensures, c.tail_at-tail.ensures, c.copy.auto.dst)

pub returns : goal.returns
returns c =
    let state = c.args.state.now in
    let m = c.args.message in
    let n = c.active_count-count.result in
    let at = c.messages_at.result + n * 6 in
    let place : at ≡ tail_at state + end_of (table_in state) + length (sim_of state).active * 6 = (λ i. c.messages_at.ensures i + c.active_count-count.ensures i * 6) in
    let new : c.copy.new.dst ≡ copied 0 6 (written m) (drop at state) = c.copy.ensures ∙ (λ i. copied 0 6 (c.words_of-words.ensures i) (to_end at state i)) in
    (λ i. set ((put-at-end at state c.copy.new.dst ∙ ap (λ (z : List ℕ). take at state ++ z) new) i) (c.tail_at-tail.ensures i) (c.active_count-count.ensures i + 1))
    ∙ one_more state c.requires.0 m at place
