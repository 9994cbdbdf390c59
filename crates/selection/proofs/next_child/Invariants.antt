-- `selection::next_child` meets its contract. The loop's invariant: the search from here on gives what the whole search gives. Assumes nothing.
use mathlib.Core.Path.{◌≡◌}
use Prim.Native.Nat.{◌-◌}
use Rattle.words.specs.Search.{first_from}
use Rattle.selection.specs.Selecting.{rows_in}
use Rattle.selection.specs.SelectingLaws.{child_at}
use Rattle.selection.proofs.next_child.Given as goal

abbrev pub invariant-loop-row : goal.invariant-loop-row
invariant-loop-row l = first_from (child_at l.parent l.models) l.row (rows_in l.models - l.row) ≡ first_from (child_at l.parent l.models) l.from (rows_in l.models - l.from)
