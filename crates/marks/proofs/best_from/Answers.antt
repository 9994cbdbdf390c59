-- `marks::best_from` meets its contract. The loop's invariant: the best of the rest, from the best so far, is the best of all. Assumes nothing.
use Rattle.std.proofs.Common.{sym, ◌∙◌, rules}
use Rattle.marks.specs.SweepLaws.{best-end, best-next, turn}
use Rattle.marks.specs.Sweeps.{best_from, better_at}
use borrow.Author.Rules.{rules}
use Rattle.marks.proofs.best_from.Goals as goal

pub loop-k-preserved : goal.loop-k-preserved
loop-k-preserved c =
    let words = c.args.words.now in
    let metric = c.args.metric in
    let best = c.loop-k.best in
    let k = c.loop-k.k in (
      search rules,
      search rules,
      rw c.better_of-best.ensures (sym (turn (best_from metric words best) (best_from metric words (better_at metric words best k)) k c.args.held (best-next metric words best k) c.loop-k-test.true) ∙ c.loop-k.invariant.2),
    )

pub returns : goal.returns
returns c = sym (best-end _ _ _ _ _ c.loop-k-test.false) ∙ c.loop-k.invariant.2
