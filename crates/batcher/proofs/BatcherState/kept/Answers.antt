use borrow.Author.Tests.{lt-ltb, le-ltb}
use Rattle.batcher.proofs.BatcherState.kept.Goals as goal

pub returns-then-self-ge64 : goal.returns-then-self-ge64
returns-then-self-ge64 c = rw (c.refused.ensures, le-ltb _ _ c.if-self-ge64.true)

pub returns : goal.returns
returns c = rw (lt-ltb _ _ c.if-self-ge64.false)
