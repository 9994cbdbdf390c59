-- `holding::rest_clear` meets its contract: the last 56 places and those before, or all at once. Assumes nothing.
use mathlib.Core.Path.{sym, ◌∙◌}
use Rattle.holding.specs.RowLaws.{rest-is, last-left, first-left}
use Rattle.holding.proofs.rest_clear.Goals as goal

pub returns-then-held-gt8 : goal.returns-then-held-gt8
returns-then-held-gt8 c =
    c.is_clear.ensures ∙ rest-is c.args.held c.args.own.now c.requires.1 c.requires.0

pub returns-then-not-is_clear : goal.returns-then-not-is_clear
returns-then-not-is_clear c =
    sym (last-left c.args.held c.args.own.now c.requires.1 c.if-held-gt8.false (sym c.is_clear-2.ensures ∙ c.if-not-is_clear.true))

pub returns : goal.returns
returns c =
    c.is_clear-3.ensures ∙ first-left c.args.held c.args.own.now c.requires.1 c.if-held-gt8.false (sym c.is_clear-2.ensures ∙ c.if-not-is_clear.false)
