-- `marks::mean` meets its contract: by whether the words are whole, and by the number of durations. Assumes nothing.
use Rattle.std.proofs.Common.{sym, ◌∙◌, ap, Ok}
use Rattle.marks.specs.Jobs.{mean_in}
use Rattle.marks.specs.MarkingLaws.{whole_says}
use Rattle.marks.specs.SweepLaws.{mean-none, mean-some}
use Rattle.marks.proofs.mean.Goals as goal

pub returns-then-not-whole : goal.returns-then-not-whole
unfolding mean_in
returns-then-not-whole c = rw (sym c.whole.ensures ∙ c.if-not-whole.true)

pub total_of-total-requires : goal.total_of-total-requires
total_of-total-requires c = whole_says c.args.held c.args.words.now (sym c.whole.ensures ∙ c.if-not-whole.false)

pub returns-then-count-eq0 : goal.returns-then-count-eq0
unfolding mean_in
returns-then-count-eq0 c =
    rw (sym c.whole.ensures ∙ c.if-not-whole.false) (ap Ok (sym (mean-none _ _ _ c.total_of-total.ensures c.if-count-eq0.true)))

pub returns : goal.returns
unfolding mean_in
returns c =
    rw (c.nearest_u64_to_f64-number.ensures, sym c.whole.ensures ∙ c.if-not-whole.false) (ap Ok (sym (mean-some _ _ _ c.total_of-total.ensures c.if-count-eq0.false)))
