use Rattle.processor.proofs.Laws as laws
use borrow.Author.Rules.{rules}
use Rattle.processor.proofs.ProcessorState.released.Goals as goal

pub returns-then-self-eq0 : goal.returns-then-self-eq0
returns-then-self-eq0 c =
    let a = c.args in
    λ queue services e. rw c.rests.ensures (laws.released-none services a.place a.self queue e (search rules))

pub returns : goal.returns
returns c =
    let a = c.args in
    λ queue services e. rw c.rests-2.ensures (laws.released-one services a.place a.self queue e (search rules))
