-- `marks::total_of` meets its contract. The loop's invariant: the total so far, with the rest added, is the total of all. Assumes nothing.
use Rattle.std.proofs.Common.{sym, ◌∙◌, rules}
use lib.Ieee.{of_bits}
use Rattle.times.proofs.Laws.{time-fits, instant-time}
use Rattle.times.specs.Time.{instant}
use Rattle.marks.specs.SweepLaws.{added-low, begun, total-end, total-next, turn}
use Rattle.marks.specs.Sweeps.{total_from, no_total, added_at}
use borrow.Author.Rules.{rules}
use Rattle.marks.proofs.total_of.Goals as goal

pub loop-k-init : goal.loop-k-init
unfolding of_bits
loop-k-init c = (search rules, search rules, begun (total_from c.args.words.now no_total 0) c.args.held, time-fits instant instant-time)

pub loop-k-preserved : goal.loop-k-preserved
loop-k-preserved c =
    let words = c.args.words.now in
    let total = c.loop-k.total in
    let k = c.loop-k.k in (
      search rules,
      rw c.add_to-total.ensures (added-low words total k c.loop-k.invariant.1),
      rw c.add_to-total.ensures (sym (turn (total_from words total) (total_from words (added_at words total k)) k c.args.held (total-next words total k) c.loop-k-test.true) ∙ c.loop-k.invariant.2),
      search rules,
    )

pub returns : goal.returns
returns c = sym (total-end _ _ _ _ c.loop-k-test.false) ∙ c.loop-k.invariant.2
