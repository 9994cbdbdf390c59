use Rattle.processor.proofs.Laws as laws
use borrow.Author.Rules.{rules}
use Rattle.processor.proofs.ProcessorState.resumed.Goals as goal

pub returns-then-self-eq0 : goal.returns-then-self-eq0
returns-then-self-eq0 c =
    let a = c.args in
    λ queue e. rw c.new.ensures (laws.resumed-none a.services.now a.place a.self queue e (search rules))

pub returns-in-Ok : goal.returns-in-Ok
returns-in-Ok c =
    let a = c.args in
    λ queue e. laws.resumed-one a.services.now a.place a.self queue e (search rules) _ _ (rw c.in-Ok.is at c.service_time.ensures)

pub returns-in-Err : goal.returns-in-Err
returns-in-Err c =
    let a = c.args in
    λ queue e. laws.resumed-refused a.services.now a.place a.self queue e (search rules) _ (rw c.in-Err.is at c.service_time.ensures)
