-- `cases`: each turn goes on behind its case. Assumes nothing.
use Rattle.std.proofs.Common.{◌≤◌, length}
use Rattle.oracle_list.proofs.list.cases.Given as goal

abbrev pub invariant-loop-case : goal.invariant-loop-case
invariant-loop-case g l = length l.rest ≤ length l.text

abbrev pub decreases-loop-case : goal.decreases-loop-case
decreases-loop-case g l = length l.rest
