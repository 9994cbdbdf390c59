use lib.Ieee.{of_bits}
use Rattle.batcher.proofs.Laws as laws
use borrow.Author.Rules.{rules}
use Rattle.batcher.proofs.BatcherState.internal_rule.Goals as goal

pub returns-then-self-most : goal.returns-then-self-most
returns-then-self-most c =
    let a = c.args in
    λ queue e. rw c.new.ensures (laws.all_go a.row a.self queue e (search rules))

pub returns-then-most-rest : goal.returns-then-most-rest
unfolding of_bits
returns-then-most-rest c =
    let a = c.args in
    λ queue e. rw c.size_of-most.ensures (laws.batch-goes a.row a.self queue e (search rules) (search rules))

pub returns : goal.returns
returns c =
    let a = c.args in
    λ queue e. rw c.size_of-most.ensures (laws.rest-waits a.row a.self queue e (search rules) (search rules))
