use Rattle.processor.proofs.Laws as laws
use borrow.Author.Rules.{rules}
use Rattle.processor.proofs.ProcessorState.external_rule.Goals as goal

pub returns-then-port-row : goal.returns-then-port-row
returns-then-port-row c =
    let a = c.args in
    λ queue job e. rw c.told.ensures (laws.other-port a.row a.services.now a.port job a.place a.self queue e (search rules))

pub returns-then-self-eq0 : goal.returns-then-self-eq0
returns-then-self-eq0 c =
    let a = c.args in
    λ queue job e. rw c.told-then-self-eq0.ensures (laws.empty-full a.row a.services.now a.port job a.place a.self queue e (search rules) (search rules) (search rules))

pub returns-then-self-row : goal.returns-then-self-row
returns-then-self-row c =
    let a = c.args in
    λ queue job e. rw c.told-then-self-row.ensures (laws.full a.row a.services.now a.port job a.place a.self queue e (search rules) (search rules) (search rules))

pub returns-then-self-eq0-2 : goal.returns-then-self-eq0-2
returns-then-self-eq0-2 c =
    let a = c.args in
    λ queue job e. laws.starts a.row a.services.now a.port job a.place a.self queue e (search rules) (search rules) (search rules) c.start.result (c.start.ensures job (search rules))

pub returns-then-self-ge64 : goal.returns-then-self-ge64
returns-then-self-ge64 c =
    let a = c.args in
    λ queue job e. rw c.told-then-self-ge64.ensures (laws.no_room a.row a.services.now a.port job a.place a.self queue e (search rules) (search rules) (search rules) (search rules))

pub returns : goal.returns
returns c =
    let a = c.args in
    λ queue job e. laws.kept a.row a.services.now a.port job a.place a.self queue e (search rules) (search rules) (search rules) (search rules)
