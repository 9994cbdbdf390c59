-- `holding::is_timer` meets its contract: a timer by its bits. Assumes nothing.
use mathlib.Core.Path.{sym, ap, ◌∙◌}
use mathlib.Core.Bool.{Bool, ◌||◌}
use lib.Dec.{eqb}
use Rattle.times.proofs.Patterns.{infinite, time-bits, timer-bits}
use Rattle.holding.proofs.is_timer.Goals as goal

pub returns-then-is_time : goal.returns-then-is_time
returns-then-is_time c = let b = c.args.bits in sym (timer-bits b ∙ ap (λ (t : Bool). t || eqb b infinite) (sym (time-bits b) ∙ sym c.is_time.ensures ∙ c.if-is_time.true))

pub returns : goal.returns
returns c = let b = c.args.bits in sym (timer-bits b ∙ ap (λ (t : Bool). t || eqb b infinite) (sym (time-bits b) ∙ sym c.is_time.ensures ∙ c.if-is_time.false))
