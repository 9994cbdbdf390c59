-- `copying::copy_rows` meets its contract. The loop: from `next` on all is copied. Assumes nothing.
use mathlib.Core.Path.{◌≡◌}
use lib.ListN.{length}
use Rattle.copying.specs.SparingLaws.{Going}
use Rattle.copying.proofs.copy_rows.Given as goal

abbrev pub invariant-loop-row : goal.invariant-loop-row
invariant-loop-row l =
    (length l.dst ≡ length l.initial.dst) × Going l.rows l.end l.src l.initial.dst l.dst l.row l.next
