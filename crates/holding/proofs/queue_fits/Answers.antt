-- `holding::queue_fits` meets its contract: the jobs, and the places after them. Assumes nothing.
use mathlib.Core.Path.{sym, ◌∙◌}
use Rattle.holding.specs.RowLaws.{queue-many, queue-bad, queue-rest}
use Rattle.holding.proofs.queue_fits.Goals as goal

pub returns-then-held-gt64 : goal.returns-then-held-gt64
returns-then-held-gt64 c =
    let a = c.args in sym (queue-many a.held a.own.now c.if-held-gt64.true)

pub returns-then-not-are_contents : goal.returns-then-not-are_contents
returns-then-not-are_contents c =
    let a = c.args in sym (queue-bad a.held a.own.now (sym c.are_contents.ensures ∙ c.if-not-are_contents.true))

pub returns : goal.returns
returns c =
    let a = c.args in
    c.rest_clear.ensures ∙ queue-rest a.held a.own.now c.if-held-gt64.false (sym c.are_contents.ensures ∙ c.if-not-are_contents.false)
