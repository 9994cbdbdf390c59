-- `hints::row_named` meets its contract. The loop's invariant: the search from here on gives what the whole search gives. Assumes nothing.
use Prim.Native.Nat.{◌-◌, ◌/◌}
use mathlib.Core.Path.{◌≡◌}
use lib.ListN.{length}
use Rattle.words.specs.Search.{first_from}
use Rattle.hints.specs.NamingLaws.{is_named}
use Rattle.hints.proofs.row_named.Given as goal

abbrev pub invariant-loop-row : goal.invariant-loop-row
invariant-loop-row l =
    first_from (is_named l.wanted l.models l.id) l.row (length l.models / 10 - l.row) ≡ first_from (is_named l.wanted l.models l.id) 0 (length l.models / 10)
