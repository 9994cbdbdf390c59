use Rattle.rules.specs.Valid.{processor_external_call}
use mathlib.Core.Path.{sym, ◌∙◌}
use Rattle.processor.proofs.ProcessorState.external.Goals as goal

pub returns-then-fits : goal.returns-then-fits
unfolding processor_external_call
returns-then-fits c = λ queue job e t. rw (sym (c.fits.ensures queue e t) ∙ c.if-fits.true) (c.external_rule.ensures queue job e)

pub returns : goal.returns
unfolding processor_external_call
returns c = λ queue job e t. rw c.told.ensures (record { tells = rw (sym (c.fits.ensures queue e t) ∙ c.if-fits.false); holds = e })
