-- `marks::fetch` meets its contract: by whether the words are whole. Assumes nothing.
use Rattle.std.proofs.Common.{sym, ◌∙◌, ap, Ok}
use Rattle.marks.specs.Jobs.{fetched_in}
use Rattle.marks.specs.MarkingLaws.{whole_says}
use Rattle.marks.specs.Sweeps.{fetched_from, durations_from}
use Rattle.marks.proofs.fetch.Goals as goal

pub returns-then-not-whole : goal.returns-then-not-whole
unfolding fetched_in
returns-then-not-whole c = rw (sym c.whole.ensures ∙ c.if-not-whole.true)

pub fetch_from-requires : goal.fetch_from-requires
fetch_from-requires c = whole_says c.args.held c.args.words.now (sym c.whole.ensures ∙ c.if-not-whole.false)

pub returns : goal.returns
unfolding fetched_in fetched_from durations_from
returns c = rw (sym c.whole.ensures ∙ c.if-not-whole.false) (ap Ok c.fetch_from.ensures)
