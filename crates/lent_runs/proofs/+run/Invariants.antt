-- `lent_runs::run` meets its contract: an order that asks for another is of a higher rank. Assumes nothing.
use Rattle.lent_runs.specs.OrderLaws.{rank}
use Rattle.lent_runs.proofs.+run.Given as goal

abbrev pub decreases-run : goal.decreases-run
decreases-run l = rank l.order
