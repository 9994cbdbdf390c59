use Rattle.stopwatch.proofs.StopwatchState.new.Goals as goal

pub returns : goal.returns
returns c = rw c.never.ensures
