-- `queue_rows::batcher_head` meets its contract. Assumes nothing.
use Rattle.queue_rows.proofs.batcher_head.Goals as goal

pub returns-in-Passive : goal.returns-in-Passive
returns-in-Passive c = rw c.in-Passive.is

pub returns-in-Batching : goal.returns-in-Batching
returns-in-Batching c = rw c.in-Batching.is

pub returns-in-Release : goal.returns-in-Release
returns-in-Release c = rw c.in-Release.is
