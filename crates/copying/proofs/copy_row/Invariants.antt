-- `copying::copy_row` meets its contract: what is not copied is alike. Assumes nothing.
use mathlib.Core.Path.{◌≡◌}
use lib.ListN.{length}
use Rattle.copying.specs.SparingLaws.{Columns}
use Rattle.copying.proofs.copy_row.Given as goal

abbrev pub invariant-loop-at : goal.invariant-loop-at
invariant-loop-at l =
    (length l.dst ≡ length l.initial.dst) × Columns l.begin l.next l.src l.initial.dst l.dst l.at
