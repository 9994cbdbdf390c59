use lib.Ieee.{of_bits}
use mathlib.Core.Path.{refl}
use Rattle.processor.proofs.ProcessorState.rests.Goals as goal

pub returns : goal.returns
unfolding of_bits
returns c = refl
