use Rattle.rules.specs.declared.StopwatchPhase.{StopwatchPhase}
use Rattle.stopwatch.specs.Watching.{internal_from, internal_in}
use mathlib.Core.Path.{sym, ap, ◌∙◌}
use Rattle.stopwatch.proofs.StopwatchState.internal_rule.Goals as goal

pub returns-in-Passive : goal.returns-in-Passive
unfolding internal_in
returns-in-Passive c =
    let a = c.args in
    c.rests.ensures ∙ ap (λ (p : StopwatchPhase). internal_from p a.row a.self a.words.now) (sym c.in-Passive.is)

pub returns-in-JobFetch : goal.returns-in-JobFetch
unfolding internal_in
returns-in-JobFetch c =
    let a = c.args in
    c.fetch.ensures ∙ ap (λ (p : StopwatchPhase). internal_from p a.row a.self a.words.now) (sym c.in-JobFetch.is)
