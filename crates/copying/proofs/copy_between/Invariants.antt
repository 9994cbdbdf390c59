-- `copying::copy_between` meets its contract. The loop's invariant: the words before k are copied. Assumes nothing.
use mathlib.Core.Path.{◌≡◌}
use lib.ListN.{length}
use Rattle.copying.specs.Sparing.{Brought}
use Rattle.copying.proofs.copy_between.Given as goal

abbrev pub invariant-loop-k : goal.invariant-loop-k
invariant-loop-k l = (length l.dst ≡ length l.initial.dst) × Brought l.from l.k l.src l.initial.dst l.dst
