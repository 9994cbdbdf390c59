-- `lent_runs::done_for` meets its contract. Assumes nothing.
use mathlib.Core.Path.{refl}
use Rattle.lent_runs.proofs.done_for.Goals as goal

pub returns-in-Refused : goal.returns-in-Refused
returns-in-Refused c = rw c.in-Refused.is refl
