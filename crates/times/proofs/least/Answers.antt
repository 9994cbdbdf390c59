-- `times::least` meets its contract: each arm returns what `least_of` picks as the test went. Assumes nothing.
use Rattle.times.specs.Time.{least_of}
use Rattle.times.proofs.least.Goals as goal

pub returns-then-b-a : goal.returns-then-b-a
unfolding least_of
returns-then-b-a c = rw c.if-b-a.true

pub returns-else-b-a : goal.returns-else-b-a
unfolding least_of
returns-else-b-a c = rw c.if-b-a.false
