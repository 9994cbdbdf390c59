use Rattle.stopwatch.proofs.StopwatchState.fetch.Goals as goal

pub returns-in-Ok : goal.returns-in-Ok
returns-in-Ok c = rw (← c.fetch.ensures, c.in-Ok.is, c.rests.ensures)

pub returns-in-Err : goal.returns-in-Err
returns-in-Err c = rw (← c.fetch.ensures, c.in-Err.is)
