use Rattle.stopwatch.proofs.StopwatchState.rests.Goals as goal

pub returns : goal.returns
returns c = rw c.never.ensures
