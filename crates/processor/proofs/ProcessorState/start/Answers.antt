use Rattle.processor.proofs.Laws as laws
use Rattle.processor.proofs.ProcessorState.start.Goals as goal

pub returns-in-Ok : goal.returns-in-Ok
returns-in-Ok c =
    let a = c.args in
    λ job z. laws.started a.services.now a.place job a.self _ _ (rw c.in-Ok.is at c.service_time.ensures)

pub returns-in-Err : goal.returns-in-Err
returns-in-Err c =
    let a = c.args in
    λ job z. rw c.told.ensures (laws.not-started a.services.now a.place job a.self _ (rw c.in-Err.is at c.service_time.ensures) z)
