-- `copying::copy` meets its contract. The loop's invariant: k words are copied, and the rest is as it was. Assumes nothing.
use mathlib.Core.Path.{◌≡◌}
use lib.ListN.{length}
use Rattle.copying.specs.Copied.{copied}
use Rattle.copying.proofs.copy.Given as goal

abbrev pub invariant-loop-k : goal.invariant-loop-k
invariant-loop-k l =
    (l.dst ≡ copied l.start l.k l.src l.initial.dst) × (length l.dst ≡ length l.initial.dst)
