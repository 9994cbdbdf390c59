use Rattle.stopwatch.proofs.StopwatchState.mark.Goals as goal

pub returns-in-Ok : goal.returns-in-Ok
returns-in-Ok c = rw (← c.set_mark.ensures, c.in-Ok.is)

pub returns-in-Err-NoRoom : goal.returns-in-Err-NoRoom
returns-in-Err-NoRoom c = rw (← c.set_mark.ensures, c.in-Err-NoRoom.is, c.in-Err-NoRoom.field-0-is, c.refused.ensures)

pub returns-in-Err-CutShort : goal.returns-in-Err-CutShort
returns-in-Err-CutShort c = rw (← c.set_mark.ensures, c.in-Err-CutShort.is, c.in-Err-CutShort.field-0-is, c.refused-in-Err-CutShort.ensures)
