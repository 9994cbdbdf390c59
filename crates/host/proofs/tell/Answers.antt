-- `host::tell` meets its contract. Assumes nothing.
use Prim.Native.Nat.{ℕ}
use mathlib.Core.Path.{ap}
use Rattle.host.specs.Numbers.{reported}
use Rattle.host.proofs.tell.Goals as goal

pub returns : goal.returns
returns c = record { answers = c.end_number.ensures; tells = ap (λ (w : ℕ). reported c.args.told.steps c.args.told.written w c.args.report.now) c.end_word.ensures }
