-- `taking::next_for` meets its contract. The loop: what is left of the search is the whole. Assumes nothing.
use borrow.Author.Tests.{ne_eqb}
use mathlib.Core.Path.{sym, ◌∙◌}
use Rattle.sweeps.specs.Skips.{stop-skip}
use Rattle.taking.specs.Taking.{is_for}
use Rattle.taking.proofs.next_for.Goals as goal

pub loop-next-preserved : goal.loop-next-preserved
loop-next-preserved c =
    sym (stop-skip (is_for c.args.active c.args.mem.now c.args.id) c.loop-next.next c.args.count c.loop-next-test.true (ne_eqb _ _ c.if-mem-at.false)) ∙ c.loop-next.invariant
