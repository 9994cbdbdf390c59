-- `asking::get_messages` meets its contract: the lent part is the state's changing part, which has room for all active messages. Assumes nothing.
use Prim.Native.Nat.{ℕ, ◌+◌, ◌*◌, ◌≤◌, ◌<◌}
use mathlib.Core.Path.{sym, ap, ◌∙◌, subst}
use mathlib.Core.List.{List}
use native.Mathlib.Omega.{arith}
use lib.ListN.{length, length-drop}
use Rattle.rules.specs.Layout.{laid_down}
use Rattle.rules.specs.Ends.{All}
use Rattle.rules.proofs.Worlds.{MessageFits}
use Rattle.memory.specs.Words.{word_at}
use Rattle.lookup.specs.Inside.{tail_at, table_in}
use Rattle.views.specs.World.{end_of, Laid}
use Rattle.views.specs.Messages.{messages_in}
use Rattle.views.specs.MessageLaws.{messages-long}
use Rattle.rerunning.specs.Running.{tail_in}
use Rattle.storing.specs.StoredLaws.{stored_of, tail-room}
use Rattle.asking.specs.AskLaws.{tail-lent}
use Rattle.asking.proofs.get_messages.Goals as goal

pub tail_at-tail-requires : goal.tail_at-tail-requires
tail_at-tail-requires c =
    (stored_of c.args.state.now c.requires.0).inside

pub offset_bounds-state-tail : goal.offset_bounds-state-tail
offset_bounds-state-tail c =
    let stored = stored_of c.args.state.now c.requires.0 in omega arith

pub slice_bounds-mem-count : goal.slice_bounds-mem-count
slice_bounds-mem-count c =
    let stored = stored_of c.args.state.now c.requires.0 in omega arith

pub slice_bounds-mem-start : goal.slice_bounds-mem-start
slice_bounds-mem-start c =
    let stored = stored_of c.args.state.now c.requires.0 in omega arith

pub bounds-mem-0 : goal.bounds-mem-0
bounds-mem-0 c =
    let state = c.args.state.now in
    let stored = stored_of state c.requires.0 in
    subst (λ (mem : List ℕ). 0 < length mem) (sym (tail-lent state c.tail_at-tail.result c.tail_at-tail.ensures)) (omega arith)

pub end_of-end-requires : goal.end_of-end-requires
end_of-end-requires c =
    let state = c.args.state.now in
    let stored = stored_of state c.requires.0 in
    (stored.inside, subst (Laid (table_in state)) (sym (tail-lent state c.tail_at-tail.result c.tail_at-tail.ensures)) stored.ready.laid)

pub lay_down-requires : goal.lay_down-requires
lay_down-requires c =
    let state = c.args.state.now in
    let stored = stored_of state c.requires.0 in
    let room = tail-room state c.requires.0 in
    let left = length-drop (tail_at state) state in
    let long = messages-long (end_of (table_in state)) (word_at (tail_in state) 0) (tail_in state) in
    subst (λ (mem : List ℕ). (word_at mem 0 ≤ 256) × (c.end_of-end.result + 1536 ≤ length mem) × (word_at mem 0 * 6 ≤ length c.args.rows.now) × All MessageFits (messages_in c.end_of-end.result (word_at mem 0) mem))
    (sym (tail-lent state c.tail_at-tail.result c.tail_at-tail.ensures))
    (stored.few, omega arith, omega arith, rw c.end_of-end.ensures stored.active)

pub returns : goal.returns
returns c =
    let state = c.args.state.now in
    let lent = tail-lent state c.tail_at-tail.result c.tail_at-tail.ensures in
    let long = messages-long (end_of (table_in state)) (word_at (tail_in state) 0) (tail_in state) in
    record { counts = ap (λ (mem : List ℕ). word_at mem 0) lent ∙ sym long; lays = c.lay_down.ensures ∙ (λ i. laid_down (messages_in (c.end_of-end.ensures i) (word_at (lent i) 0) (lent i)) c.args.rows.now) }
