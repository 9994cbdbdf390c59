-- `holding::is_time` meets its contract: a time by its bits. Assumes nothing.
use mathlib.Core.Path.{sym}
use Rattle.times.proofs.Patterns.{time-bits}
use Rattle.holding.proofs.is_time.Goals as goal

pub returns : goal.returns
returns c = sym (time-bits c.args.bits)
