-- `times::advance_clock` meets its contract: what `is_time` says of the sum picks the variant. Assumes nothing.
use mathlib.Core.Path.{sym, ◌∙◌}
use Rattle.times.specs.Answers.{later_of}
use Rattle.times.proofs.advance_clock.Goals as goal

pub returns-then-is_time : goal.returns-then-is_time
unfolding later_of
returns-then-is_time c = rw (sym c.is_time.ensures ∙ c.if-is_time.true)

pub returns-else-is_time : goal.returns-else-is_time
unfolding later_of
returns-else-is_time c = rw (sym c.is_time.ensures ∙ c.if-is_time.false)
