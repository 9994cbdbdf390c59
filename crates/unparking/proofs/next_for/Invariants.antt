-- `unparking::next_for` meets its contract. The loop's invariant: the search from here on gives what the whole search gives. Assumes nothing.
use mathlib.Core.Path.{◌≡◌}
use Prim.Native.Nat.{◌-◌}
use Rattle.words.specs.Search.{first_from}
use Rattle.unparking.specs.Unparking.{is_for}
use Rattle.unparking.proofs.next_for.Given as goal

abbrev pub invariant-loop-place : goal.invariant-loop-place
invariant-loop-place l =
    first_from (is_for l.id l.begin l.mem) l.place (l.held - l.place) ≡ first_from (is_for l.id l.begin l.mem) l.from (l.held - l.from)
