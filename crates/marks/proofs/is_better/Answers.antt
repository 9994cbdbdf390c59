-- `marks::is_better` meets its contract: by the metric. Assumes nothing.
use Rattle.marks.proofs.is_better.Goals as goal

pub returns-in-Minimum : goal.returns-in-Minimum
returns-in-Minimum c = rw c.in-Minimum.is

pub returns-in-Maximum : goal.returns-in-Maximum
returns-in-Maximum c = rw c.in-Maximum.is
