-- `queue_rows::processor_head` meets its contract. Assumes nothing.
use Rattle.queue_rows.proofs.processor_head.Goals as goal

pub returns-in-Passive : goal.returns-in-Passive
returns-in-Passive c = rw c.in-Passive.is

pub returns-in-Active : goal.returns-in-Active
returns-in-Active c = rw c.in-Active.is
