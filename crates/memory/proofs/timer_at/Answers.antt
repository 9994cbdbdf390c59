-- `memory::timer_at` meets its contract: the bits of a timer are no NaN's. Assumes nothing.
use mathlib.Core.Path.{sym, subst}
use mathlib.Core.Bool.{Bool, not}
use lib.Dec.{T}
use lib.Ieee.{binary64, of_bits}
use lib.Ieee.Bits.{nan_bits_is}
use Rattle.times.specs.Order.{clear-no-nan}
use Rattle.times.proofs.Laws.{timer-clear}
use Rattle.memory.specs.Words.{timer_in}
use Rattle.memory.proofs.timer_at.Goals as goal

pub float_from_bits-result : goal.float_from_bits-result
float_from_bits-result c =
    let b = timer_in c.args.mem.now c.args.row in
    subst (λ (t : Bool). T (not t)) (sym (nan_bits_is binary64 b)) (clear-no-nan (of_bits binary64 b) (timer-clear (of_bits binary64 b) c.requires.1))
