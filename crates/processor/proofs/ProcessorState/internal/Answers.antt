use native.Mathlib.Omega.{arith}
use Rattle.rules.specs.Valid.{processor_internal_call}
use mathlib.Core.Path.{sym, ◌∙◌}
use Rattle.processor.proofs.ProcessorState.internal.Goals as goal

pub returns-then-fits : goal.returns-then-fits
unfolding processor_internal_call
returns-then-fits c = λ queue e t. rw (sym (c.fits.ensures queue e t) ∙ c.if-fits.true) (c.internal_rule.ensures queue e)

pub returns : goal.returns
unfolding processor_internal_call
returns c = λ queue e t. record { tells = rw (sym (c.fits.ensures queue e t) ∙ c.if-fits.false); holds = e; within = omega arith }
