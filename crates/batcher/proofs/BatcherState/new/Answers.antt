use Rattle.batcher.proofs.BatcherState.new.Goals as goal

pub returns : goal.returns
returns c = rw c.never.ensures
