-- `marks::column` meets its contract: by the mark. Assumes nothing.
use Rattle.marks.proofs.column.Goals as goal

pub returns-in-Start : goal.returns-in-Start
returns-in-Start c = rw c.in-Start.is

pub returns-in-Stop : goal.returns-in-Stop
returns-in-Stop c = rw c.in-Stop.is
