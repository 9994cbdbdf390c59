-- `taking::next_addressed` meets its contract. The loop: what is left of the search is the whole. Assumes nothing.
use borrow.Author.Tests.{le-ltb}
use Prim.Native.Nat.{ℕ, ◌-◌}
use mathlib.Core.Path.{sym, ap, ◌∙◌}
use lib.Dec.{ltb}
use Rattle.lookup.specs.Inside.{table_in}
use Rattle.sweeps.specs.Skips.{stop_from, stop-skip}
use Rattle.taking.specs.Taking.{is_for, is_addressed}
use Rattle.taking.proofs.next_addressed.Goals as goal

pub loop-row-preserved : goal.loop-row-preserved
loop-row-preserved c =
    let a = c.args in
    (c.loop-row.invariant.0, sym (stop-skip (is_addressed (table_in a.state.now) a.active a.count a.mem.now) c.loop-row.row c.row_count-end.result c.loop-row-test.true (ap (λ (n : ℕ). ltb (stop_from (is_for a.active a.mem.now n) 0 (a.count - 0)) a.count) (sym c.id_of.ensures) ∙ ap (λ (n : ℕ). ltb n a.count) (sym c.next_for.ensures) ∙ le-ltb _ _ c.if-next_for-count.false)) ∙ c.loop-row.invariant.1)
