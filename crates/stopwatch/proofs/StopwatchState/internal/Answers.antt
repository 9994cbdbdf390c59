use Rattle.std.proofs.Common.{Err, Option, ℕ}
use Rattle.events.specs.declared.Handed.{Handed}
use Rattle.stopwatch.specs.declared.StopwatchState.{StopwatchState}
use Rattle.rules.specs.declared.Refusal.TheVariants.{BadState}
use Rattle.stopwatch.specs.Watching.{internal_call_in}
use mathlib.Core.Path.{◌≡◌, sym, ◌∙◌}
use Rattle.stopwatch.specs.WatchingLaws as laws
use Rattle.stopwatch.proofs.StopwatchState.internal.Goals as goal

pub returns-then-fits : goal.returns-then-fits
unfolding internal_call_in
returns-then-fits c =
    let a = c.args in
    let l : c.internal_rule.result ≡ internal_call_in a.row a.self a.words.now = rw (sym c.fits.ensures ∙ c.if-fits.true) c.internal_rule.ensures in record { lays = l; means = laws.went-as a.row a.self a.words.now _ l }

pub returns : goal.returns
unfolding internal_call_in
returns c =
    let a = c.args in
    let r : Handed StopwatchState (Option ℕ) = record { next = a.self; answer = Err BadState } in let l : r ≡ internal_call_in a.row a.self a.words.now = rw (sym c.fits.ensures ∙ c.if-fits.false) in record { lays = l; means = laws.went-as a.row a.self a.words.now r l }
