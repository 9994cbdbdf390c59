-- `posting::replace` meets its contract. Assumes nothing.
use Prim.Native.Nat.{◌+◌}
use mathlib.Core.Path.{◌∙◌}
use native.Mathlib.Omega.{arith}
use lib.ListN.{get_or}
use Rattle.posting.specs.WholeLaws.{fits, tail-room, message-room, count-read, word_read, put-laid}
use Rattle.posting.proofs.replace.Goals as goal

pub bounds-state-tail : goal.bounds-state-tail
bounds-state-tail c =
    omega (arith, c.tail_at-tail.ensures, tail-room c.args.state.now c.requires.0)

pub bounds-state-tail-2 : goal.bounds-state-tail-2
bounds-state-tail-2 c =
    omega (arith, c.tail_at-tail.ensures, tail-room c.args.state.now c.requires.0)

pub bounds-state-tail-3 : goal.bounds-state-tail-3
bounds-state-tail-3 c =
    omega (arith, c.tail_at-tail.ensures, tail-room c.args.state.now c.requires.0)

pub overflow_mul-active : goal.overflow_mul-active
overflow_mul-active c =
    let state = c.args.state.now in
    let stored = c.requires.0 in
    omega (arith, stored.few, count-read state stored c.tail_at-tail.result c.tail_at-tail.ensures)

pub copy-requires : goal.copy-requires
copy-requires c =
    let state = c.args.state.now in
    let stored = c.requires.0 in
    let count = count-read state stored c.tail_at-tail.result c.tail_at-tail.ensures in
    (omega (arith, message-room state stored, c.messages_at-at.ensures), omega (arith, stored.few))

pub lay_anew-requires : goal.lay_anew-requires
lay_anew-requires c =
    let a = c.args in
    let stored = c.requires.0 in
    let count = count-read a.state.now stored c.tail_at-tail.result c.tail_at-tail.ensures in
    (fits a.models.now a.connectors.now a.couplings.now c.requires.1 a.state.now c.requires.2, omega (arith, stored.few))

pub returns : goal.returns
returns c =
    let a = c.args in
    let state = a.state.now in
    let stored = c.requires.0 in
    let tail = c.tail_at-tail.result in
    let is = c.tail_at-tail.ensures in
    c.lay_anew.ensures
    ∙ put-laid state stored a.models.now a.connectors.now a.couplings.now c.requires.1 c.messages_at-at.result (get_or state tail 0) (get_or state (tail + 1) 0) (get_or state (tail + 2) 0) _ c.copy.new.dst
    c.messages_at-at.ensures (count-read state stored tail is) (word_read state stored tail 1 is) (word_read state stored tail 2 is) c.copy.ensures
