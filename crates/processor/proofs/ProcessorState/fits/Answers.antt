use Rattle.rules.specs.Valid.{is_active}
use Rattle.events.specs.Held.{none-held, some-held, both_false}
use borrow.Author.Tests.{le-leb, lt-leb, not-true, not-false}
use mathlib.Core.Path.{sym, ◌∙◌}
use Rattle.processor.proofs.Laws as laws
use borrow.Author.Rules.{rules}
use Rattle.processor.proofs.ProcessorState.fits.Goals as goal

pub returns-then-not-is_timer : goal.returns-then-not-is_timer
returns-then-not-is_timer c =
    let a = c.args in
    λ queue e t. rw (laws.fits-is a.row a.self queue e t (search rules, search rules, search rules), sym c.is_timer.ensures ∙ not-true c.is_timer.result c.if-not-is_timer.true-raw)

pub returns-then-self-gt64 : goal.returns-then-self-gt64
returns-then-self-gt64 c =
    let a = c.args in
    λ queue e t. rw (laws.fits-is a.row a.self queue e t (search rules, search rules, search rules), sym c.is_timer.ensures ∙ not-false c.is_timer.result c.if-not-is_timer.false-raw, lt-leb _ _ c.if-self-gt64.true)

pub returns-then-row-self : goal.returns-then-row-self
returns-then-row-self c =
    let a = c.args in
    λ queue e t. rw (laws.fits-is a.row a.self queue e t (search rules, search rules, search rules), sym c.is_timer.ensures ∙ not-false c.is_timer.result c.if-not-is_timer.false-raw, le-leb _ _ c.if-self-gt64.false, lt-leb _ _ c.if-row-self.true)

pub returns-then-self-gt0 : goal.returns-then-self-gt0
returns-then-self-gt0 c =
    let a = c.args in
    λ queue e t. rw (laws.fits-is a.row a.self queue e t (search rules, search rules, search rules), sym c.is_timer.ensures ∙ not-false c.is_timer.result c.if-not-is_timer.false-raw, le-leb _ _ c.if-self-gt64.false, le-leb _ _ c.if-row-self.false, some-held queue (search rules), both_false (is_active a.self.phase))

pub returns-in-Active : goal.returns-in-Active
returns-in-Active c =
    let a = c.args in
    λ queue e t. rw (laws.fits-is a.row a.self queue e t (search rules, search rules, search rules), sym c.is_timer.ensures ∙ not-false c.is_timer.result c.if-not-is_timer.false-raw, le-leb _ _ c.if-self-gt64.false, le-leb _ _ c.if-row-self.false, none-held queue (search rules), c.in-Active.is)

pub returns-in-Passive : goal.returns-in-Passive
returns-in-Passive c =
    let a = c.args in
    λ queue e t. rw (laws.fits-is a.row a.self queue e t (search rules, search rules, search rules), sym c.is_timer.ensures ∙ not-false c.is_timer.result c.if-not-is_timer.false-raw, le-leb _ _ c.if-self-gt64.false, le-leb _ _ c.if-row-self.false, none-held queue (search rules), c.in-Passive.is)
