use Rattle.processor.proofs.ProcessorState.new.Goals as goal

pub returns : goal.returns
returns c = rw c.never.ensures
