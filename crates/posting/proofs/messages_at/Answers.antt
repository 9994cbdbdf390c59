-- `posting::messages_at` meets its contract. Assumes nothing.
use Prim.Native.Nat.{ℕ, ◌-◌}
use mathlib.Core.Path.{◌≡◌, sym, ap, ◌∙◌, subst}
use native.Mathlib.Nat.{le_of_eq}
use native.Mathlib.Omega.{arith}
use lib.ListN.{length, take, drop, length-drop}
use lib.Seq.{take_all}
use Rattle.lookup.specs.Inside.{table_in}
use Rattle.views.specs.World.{Laid}
use Rattle.rerunning.specs.Running.{tail_in}
use Rattle.posting.specs.WholeLaws.{message-room}
use Rattle.posting.proofs.messages_at.Goals as goal

pub end_of-requires : goal.end_of-requires
end_of-requires c =
    let state = c.args.state.now in
    let tail = c.tail_at-tail.result in
    let whole : take (length state - tail) (drop tail state) ≡ drop tail state = take_all (length state - tail) (drop tail state) (le_of_eq (length-drop tail state)) in
    let lent : take (length state - tail) (drop tail state) ≡ tail_in state = whole ∙ ap (λ (k : ℕ). drop k state) c.tail_at-tail.ensures in
    (c.requires.inside, subst (Laid (table_in state)) (sym lent) c.requires.ready.laid)

pub overflow_add-result : goal.overflow_add-result
overflow_add-result c =
    let room = message-room c.args.state.now c.requires in
    omega (arith, c.tail_at-tail.ensures, c.end_of.ensures, c.well_formed)
