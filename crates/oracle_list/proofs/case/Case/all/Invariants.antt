-- `all`: each turn goes on behind the two lines of its call. Assumes nothing.
use Rattle.std.proofs.Common.{length}
use Rattle.oracle_list.proofs.case.Case.all.Given as goal

abbrev pub decreases-loop-rest : goal.decreases-loop-rest
decreases-loop-rest g l = length l.rest
