use Rattle.events.proofs.ServiceLaws as laws
use mathlib.Core.Path.{sym, ◌∙◌}
use borrow.Author.Rules.{rules}
use Rattle.events.proofs.service_time.Goals as goal

pub returns-then-services-at : goal.returns-then-services-at
returns-then-services-at c =
    let a = c.args in
    laws.past_the_end a.services.now a.place (search rules)

pub returns-then-is_time : goal.returns-then-is_time
returns-then-is_time c =
    let a = c.args in
    laws.a-time a.services.now a.place (search rules) (sym c.is_time.ensures ∙ c.if-is_time.true)

pub returns-else-is_time : goal.returns-else-is_time
returns-else-is_time c =
    let a = c.args in
    laws.no-time a.services.now a.place (search rules) (sym c.is_time.ensures ∙ c.if-is_time.false)
