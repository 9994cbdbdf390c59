-- `times::never` meets its contract: the bits are no NaN's, and are read as +infinity. Assumes nothing.
use mathlib.Core.Path.{refl}
use lib.Ieee.{nan_bits, of_bits}
use Rattle.times.proofs.never.Goals as goal

pub float_from_bits-result : goal.float_from_bits-result
unfolding nan_bits
float_from_bits-result c = tt

pub returns : goal.returns
unfolding of_bits
returns c = refl
