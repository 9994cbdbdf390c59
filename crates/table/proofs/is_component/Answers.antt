-- `table::is_component` meets its contract. A row that is not the component is passed over. Assumes nothing.
use Prim.Native.Nat.{ℕ, ◌-◌, ◌*◌}
use mathlib.Core.Path.{sym, ap, ◌∙◌}
use native.Mathlib.Nat.{add-sub_cancel_left}
use native.Mathlib.Omega.{arith}
use lib.ListN.{take, drop}
use Rattle.table.specs.Judging.{is_child, read_row}
use Rattle.table.proofs.Laws.{before-skip}
use Rattle.table.proofs.is_component.Goals as goal

pub loop-row-preserved : goal.loop-row-preserved
loop-row-preserved c =
    let a = c.args in
    let l = c.loop-row in
    let start = (l.row - 1) * 10 in
    let child = c.is_child.ensures ∙ ap (λ (n : ℕ). is_child a.owner a.target (read_row (take n (drop start a.models.now)))) (add-sub_cancel_left start 10) in
    (omega arith, sym (before-skip _ _ l.row (omega (arith, c.loop-row-test.true)) (sym child ∙ c.if-is_child.false)) ∙ l.invariant.1)
