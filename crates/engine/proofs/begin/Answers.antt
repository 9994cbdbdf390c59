-- `engine::begin` meets its contract. Assumes nothing.
use Prim.Native.Nat.{ℕ, ◌-◌}
use mathlib.Core.Path.{◌≡◌, sym, ap, ◌∙◌, subst}
use lib.ListN.{length, take, drop}
use Rattle.lookup.specs.Inside.{table_in}
use Rattle.views.specs.World.{Laid}
use Rattle.rerunning.specs.Running.{tail_in}
use Rattle.engine.specs.RunLaws.{to_end}
use Rattle.engine.proofs.begin.Goals as goal

pub end_of-active-requires : goal.end_of-active-requires
end_of-active-requires c =
    let state = c.args.state.now in
    let stored = c.requires.0 in
    let lent : take (length state - c.tail_at-tail.result) (drop c.tail_at-tail.result state) ≡ tail_in state = to_end c.tail_at-tail.result state ∙ ap (λ (k : ℕ). drop k state) c.tail_at-tail.ensures in
    (stored.inside, subst (Laid (table_in state)) (sym lent) stored.ready.laid)
