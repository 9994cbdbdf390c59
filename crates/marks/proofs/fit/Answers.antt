-- `marks::fit` meets its contract: 20's question goes job by job. Assumes nothing.
use Rattle.std.proofs.Common.{sym, ◌∙◌}
use Rattle.marks.specs.MarkingLaws.{whole_says}
use Rattle.marks.specs.SweepLaws.{fit-not, fit_is}
use Rattle.marks.proofs.fit.Goals as goal

pub returns-else-whole : goal.returns-else-whole
returns-else-whole c = c.if-whole.false ∙ sym (fit-not _ _ (sym c.whole.ensures ∙ c.if-whole.false))

pub fit_from-requires : goal.fit_from-requires
fit_from-requires c = whole_says c.args.held c.args.words.now (sym c.whole.ensures ∙ c.if-whole.true)

pub returns-then-whole : goal.returns-then-whole
returns-then-whole c = c.fit_from.ensures ∙ sym (fit_is _ _ (sym c.whole.ensures ∙ c.if-whole.true))
