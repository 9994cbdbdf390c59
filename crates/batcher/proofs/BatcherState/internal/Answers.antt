use native.Mathlib.Omega.{arith}
use Rattle.rules.specs.Valid.{batcher_internal_call}
use mathlib.Core.Path.{sym, ◌∙◌}
use Rattle.batcher.proofs.BatcherState.internal.Goals as goal

pub returns-then-fits : goal.returns-then-fits
unfolding batcher_internal_call
returns-then-fits c = λ queue e t. rw (sym (c.fits.ensures queue e t) ∙ c.if-fits.true) (c.internal_rule.ensures queue e)

pub returns : goal.returns
unfolding batcher_internal_call
returns c = λ queue e t. record { tells = rw (sym (c.fits.ensures queue e t) ∙ c.if-fits.false); holds = e; within = omega arith }
