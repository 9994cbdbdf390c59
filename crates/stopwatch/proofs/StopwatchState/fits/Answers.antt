use borrow.Author.Tests.{eq-eqb, ne_eqb, not-true, not-false}
use mathlib.Core.Path.{sym, ◌∙◌}
use Rattle.stopwatch.specs.WatchingLaws as laws
use borrow.Author.Rules.{rules}
use Rattle.stopwatch.proofs.StopwatchState.fits.Goals as goal

pub returns-then-row : goal.returns-then-row
returns-then-row c =
    let a = c.args in
    sym (laws.no-fit a.row a.self a.words.now (laws.fits-is a.row a.self a.words.now (record { start = search rules; stop = search rules; ask = search rules; output = search rules }) ∙ rw (eq-eqb _ _ c.if-row.true)))

pub returns-then-row-2 : goal.returns-then-row-2
returns-then-row-2 c =
    let a = c.args in
    sym (laws.no-fit a.row a.self a.words.now (laws.fits-is a.row a.self a.words.now (record { start = search rules; stop = search rules; ask = search rules; output = search rules }) ∙ rw (ne_eqb _ _ c.if-row.false, eq-eqb _ _ c.if-row-2.true)))

pub returns-then-row-3 : goal.returns-then-row-3
returns-then-row-3 c =
    let a = c.args in
    sym (laws.no-fit a.row a.self a.words.now (laws.fits-is a.row a.self a.words.now (record { start = search rules; stop = search rules; ask = search rules; output = search rules }) ∙ rw (ne_eqb _ _ c.if-row.false, ne_eqb _ _ c.if-row-2.false, eq-eqb _ _ c.if-row-3.true)))

pub returns-then-not-is_timer : goal.returns-then-not-is_timer
returns-then-not-is_timer c =
    let a = c.args in
    sym (laws.no-fit a.row a.self a.words.now (laws.fits-is a.row a.self a.words.now (record { start = search rules; stop = search rules; ask = search rules; output = search rules }) ∙ rw (ne_eqb _ _ c.if-row.false, ne_eqb _ _ c.if-row-2.false, ne_eqb _ _ c.if-row-3.false, sym c.is_timer.ensures ∙ not-true c.is_timer.result c.if-not-is_timer.true-raw)))

pub returns : goal.returns
returns c =
    let a = c.args in
    sym (laws.words-decide a.row a.self a.words.now (record { start = search rules; stop = search rules; ask = search rules; output = search rules }) (rw (ne_eqb _ _ c.if-row.false, ne_eqb _ _ c.if-row-2.false, ne_eqb _ _ c.if-row-3.false)) (sym c.is_timer.ensures ∙ not-false c.is_timer.result c.if-not-is_timer.false-raw) c.fit.result (sym c.fit.ensures))
