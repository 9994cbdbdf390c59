-- `times::time_of_bits` meets its contract: `time-bits` turns the test on the bits into the one on the value. Assumes nothing.
use native.Mathlib.Omega.{arith}
use borrow.Author.Tests.{le-leb, lt-leb}
use Rattle.times.specs.Answers.{time_of_bits}
use Rattle.times.proofs.Patterns.{time-bits, limit, limit-no-nan}
use Rattle.times.proofs.time_of_bits.Goals as goal

pub float_from_bits-result : goal.float_from_bits-result
float_from_bits-result c = limit-no-nan c.args.bits (omega arith)

pub returns-then-bits-le4877398396442247168 : goal.returns-then-bits-le4877398396442247168
unfolding time_of_bits
returns-then-bits-le4877398396442247168 c = let b = c.args.bits in rw (time-bits b, le-leb b limit (omega arith))

pub returns-else-bits-le4877398396442247168 : goal.returns-else-bits-le4877398396442247168
unfolding time_of_bits
returns-else-bits-le4877398396442247168 c = let b = c.args.bits in rw (time-bits b, lt-leb b limit (omega arith))
