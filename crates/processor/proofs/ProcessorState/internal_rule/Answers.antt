use Rattle.rules.specs.declared.ProcessorPhase.TheVariants as working
use Rattle.processor.proofs.Laws as laws
use Rattle.processor.proofs.ProcessorState.internal_rule.Goals as goal

pub returns-in-Active : goal.returns-in-Active
returns-in-Active c =
    let a = c.args in
    λ queue e. rw (laws.in-phase a.services.now a.place a.self queue e working.Active c.in-Active.is) (c.released.ensures queue a.services.now e)

pub returns-in-Passive : goal.returns-in-Passive
returns-in-Passive c =
    let a = c.args in
    λ queue e. rw (laws.in-phase a.services.now a.place a.self queue e working.Passive c.in-Passive.is) (c.resumed.ensures queue e)
