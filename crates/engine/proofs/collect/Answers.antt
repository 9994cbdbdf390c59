-- `engine::collect` meets its contract. Assumes nothing.
use Prim.Native.Nat.{ℕ, ◌*◌}
use mathlib.Core.Path.{ap, ◌∙◌}
use mathlib.Core.List.{List, ◌++◌}
use lib.ListN.{take}
use Rattle.rules.specs.Layout.{laid_down}
use Rattle.views.specs.Messages.{messages_in}
use Rattle.engine.specs.RunLaws.{to_end, put-at-end}
use Rattle.engine.proofs.collect.Goals as goal

pub returns : goal.returns
returns c =
    let a = c.args in
    let rows = a.rows.now in
    let start = a.written * 6 in
    put-at-end start rows c.lay_down.new.rows
    ∙ ap (λ (z : List ℕ). take start rows ++ z) c.lay_down.ensures
    ∙ ap (λ (z : List ℕ). take start rows ++ laid_down (messages_in a.active a.count a.mem.now) z) (to_end start rows)
