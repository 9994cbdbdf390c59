-- `holding::columns_clear` meets its contract: the places after the jobs, column by column. Assumes nothing.
use mathlib.Core.Path.{sym, ◌∙◌}
use Rattle.holding.specs.RowLaws.{names-left, starts-left, columns-left}
use Rattle.holding.proofs.columns_clear.Goals as goal

pub returns-then-not-is_clear : goal.returns-then-not-is_clear
returns-then-not-is_clear c =
    let a = c.args in
    sym (names-left a.held a.own.now c.requires.0 c.requires.1 (sym c.is_clear.ensures ∙ c.if-not-is_clear.true))

pub returns-then-not-is_clear-2 : goal.returns-then-not-is_clear-2
returns-then-not-is_clear-2 c =
    let a = c.args in
    sym (starts-left a.held a.own.now c.requires.0 c.requires.1 (sym c.is_clear-2.ensures ∙ c.if-not-is_clear-2.true))

pub returns : goal.returns
returns c =
    let a = c.args in
    c.is_clear-3.ensures ∙ columns-left a.held a.own.now c.requires.0 c.requires.1 (sym c.is_clear.ensures ∙ c.if-not-is_clear.false) (sym c.is_clear-2.ensures ∙ c.if-not-is_clear-2.false)
