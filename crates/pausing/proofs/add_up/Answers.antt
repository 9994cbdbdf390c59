-- `pausing::add_up` meets its contract. Assumes nothing.
use Prim.Native.Nat.{ℕ, ◌+◌}
use mathlib.Core.Path.{ap}
use Rattle.host.specs.Numbers.{reported}
use Rattle.pausing.specs.Pausing.{steps_told, rows_told}
use Rattle.pausing.proofs.add_up.Goals as goal

pub returns : goal.returns
returns c =
    let a = c.args in
    ap (λ (w : ℕ). reported (steps_told a.first.now + steps_told a.second.now) (rows_told a.first.now + rows_told a.second.now) w a.report.now) c.whole_end.ensures
