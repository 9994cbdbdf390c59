-- `table::first_bad` meets its contract. The invariant: the search from the row on finds what the whole search finds. Assumes nothing.
use Prim.Native.Nat.{◌-◌}
use mathlib.Core.Path.{◌≡◌}
use mathlib.Core.Bool.{not}
use Rattle.words.specs.Search.{first_from}
use Rattle.table.specs.Rows.{count_of}
use Rattle.table.specs.Judging.{keeps_in, width_of, first_bad_in}
use Rattle.table.specs.Rising.{AtMost}
use Rattle.table.proofs.first_bad.Given as goal

abbrev pub invariant-loop-row : goal.invariant-loop-row
invariant-loop-row l =
    (l.width ≡ width_of l.part)
    × AtMost (width_of l.part) l.slice l.row l.greatest
    × (first_from (λ k. not (keeps_in l.part l.models l.slice k)) l.row (count_of (width_of l.part) l.slice - l.row) ≡ first_bad_in l.part l.models l.slice)
