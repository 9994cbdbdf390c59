use Rattle.events.specs.Held.{last-test}
use lib.Dec.{leb}
use borrow.Author.Tests.{le-leb, lt-leb, not-true, not-false}
use mathlib.Core.Path.{sym, ◌∙◌}
use Rattle.batcher.proofs.Laws as laws
use borrow.Author.Rules.{rules}
use Rattle.batcher.proofs.BatcherState.fits.Goals as goal

pub returns-then-row-eq0 : goal.returns-then-row-eq0
returns-then-row-eq0 c =
    let a = c.args in
    λ queue e t. rw (laws.fits-is a.row a.self queue e t (search rules, search rules), lt-leb 1 a.row.max_batch_size (search rules))

pub returns-then-row-gt4611686018427387904 : goal.returns-then-row-gt4611686018427387904
returns-then-row-gt4611686018427387904 c =
    let a = c.args in
    λ queue e t. rw (laws.fits-is a.row a.self queue e t (search rules, search rules), le-leb 1 a.row.max_batch_size (search rules), lt-leb _ _ c.if-row-gt4611686018427387904.true)

pub returns-then-not-is_time : goal.returns-then-not-is_time
returns-then-not-is_time c =
    let a = c.args in
    λ queue e t. rw (laws.fits-is a.row a.self queue e t (search rules, search rules), le-leb 1 a.row.max_batch_size (search rules), le-leb _ _ c.if-row-gt4611686018427387904.false, sym c.is_time.ensures ∙ not-true c.is_time.result c.if-not-is_time.true-raw)

pub returns-then-not-is_timer : goal.returns-then-not-is_timer
returns-then-not-is_timer c =
    let a = c.args in
    λ queue e t. rw (laws.fits-is a.row a.self queue e t (search rules, search rules), le-leb 1 a.row.max_batch_size (search rules), le-leb _ _ c.if-row-gt4611686018427387904.false, sym c.is_time.ensures ∙ not-false c.is_time.result c.if-not-is_time.false-raw, sym c.is_timer.ensures ∙ not-true c.is_timer.result c.if-not-is_timer.true-raw)

pub returns : goal.returns
returns c =
    let a = c.args in
    λ queue e t. rw (laws.fits-is a.row a.self queue e t (search rules, search rules), le-leb 1 a.row.max_batch_size (search rules), le-leb _ _ c.if-row-gt4611686018427387904.false, sym c.is_time.ensures ∙ not-false c.is_time.result c.if-not-is_time.false-raw, sym c.is_timer.ensures ∙ not-false c.is_timer.result c.if-not-is_timer.false-raw) (last-test (leb a.self.held 64))
