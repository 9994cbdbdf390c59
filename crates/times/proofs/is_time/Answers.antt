-- `times::is_time` meets its contract: `time-pattern` turns the test on the bits into the one on the value. Assumes nothing.
use mathlib.Core.Path.{sym, ap, ◌∙◌, subst}
use Prim.Native.Nat.{ℕ}
use lib.Dec.{T, leb}
use Rattle.times.proofs.Patterns.{limit, time-pattern}
use Rattle.times.proofs.is_time.Goals as goal

pub returns : goal.returns
returns c = ap (λ (n : ℕ). leb n limit) c.bits_of.ensures ∙ sym (time-pattern c.args.x (subst T (sym c.well_formed.0.1) tt))
