-- `reasons::size_reason` meets its contract: the sizes by their words, as `intake` tests them. Assumes nothing.
use native.Mathlib.Omega.{arith}
use borrow.Author.Tests.{le-leb, lt-leb}
use Rattle.table.specs.Rows.{row-begins, rows_fit}
use Rattle.reasons.specs.Reasons.{size_reason}
use Rattle.reasons.proofs.size_reason.Goals as goal

pub returns-then-models-gt640 : goal.returns-then-models-gt640
unfolding size_reason
returns-then-models-gt640 c = rw (lt-leb _ _ ((row-begins 10 (omega arith) c.args.models.now 64).1 c.if-models-gt640.true))

pub returns-then-connectors-gt1024 : goal.returns-then-connectors-gt1024
unfolding size_reason
returns-then-connectors-gt1024 c =
    let a = c.args in
    rw (le-leb _ _ ((rows_fit 10 (omega arith) a.models.now 64).1 c.if-models-gt640.false), lt-leb _ _ ((row-begins 4 (omega arith) a.connectors.now 256).1 c.if-connectors-gt1024.true))

pub returns : goal.returns
unfolding size_reason
returns c =
    let a = c.args in
    rw (le-leb _ _ ((rows_fit 10 (omega arith) a.models.now 64).1 c.if-models-gt640.false), le-leb _ _ ((rows_fit 4 (omega arith) a.connectors.now 256).1 c.if-connectors-gt1024.false))
