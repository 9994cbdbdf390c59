use Rattle.stopwatch.specs.Watching.{external_call_in}
use borrow.Author.Tests.{not-true, not-false}
use mathlib.Core.Path.{◌≡◌, sym, ◌∙◌}
use Rattle.stopwatch.specs.WatchingLaws as laws
use Rattle.stopwatch.proofs.StopwatchState.external.Goals as goal

pub returns-then-not-is_time : goal.returns-then-not-is_time
unfolding external_call_in
returns-then-not-is_time c =
    let a = c.args in
    let l : (c.refused.result, a.words.now) ≡ external_call_in a.row a.clock a.port a.job a.self a.words.now = rw (sym c.is_time.ensures ∙ not-true c.is_time.result c.if-not-is_time.true-raw, c.refused.ensures) in record { lays = l; means = laws.took-as a.row a.clock a.port a.job a.self a.words.now c.refused.result (a.words.now) l }

pub returns-then-not-fits : goal.returns-then-not-fits
unfolding external_call_in
returns-then-not-fits c =
    let a = c.args in
    let l : (c.refused-then-not-fits.result, a.words.now) ≡ external_call_in a.row a.clock a.port a.job a.self a.words.now = rw (sym c.is_time.ensures ∙ not-false c.is_time.result c.if-not-is_time.false-raw, sym c.fits.ensures ∙ not-true c.fits.result c.if-not-fits.true-raw, c.refused-then-not-fits.ensures) in record { lays = l; means = laws.took-as a.row a.clock a.port a.job a.self a.words.now c.refused-then-not-fits.result (a.words.now) l }

pub returns : goal.returns
unfolding external_call_in
returns c =
    let a = c.args in
    let l : (c.external_rule.result, c.external_rule.new.words) ≡ external_call_in a.row a.clock a.port a.job a.self a.words.now = rw (sym c.is_time.ensures ∙ not-false c.is_time.result c.if-not-is_time.false-raw, sym c.fits.ensures ∙ not-false c.fits.result c.if-not-fits.false-raw) c.external_rule.ensures in record { lays = l; means = laws.took-as a.row a.clock a.port a.job a.self a.words.now c.external_rule.result c.external_rule.new.words l }
