-- `taking::next_for` meets its contract. The loop: what is left of the search is the whole. Assumes nothing.
use Prim.Native.Nat.{◌-◌}
use mathlib.Core.Path.{◌≡◌}
use Rattle.sweeps.specs.Skips.{stop_from}
use Rattle.taking.specs.Taking.{is_for}
use Rattle.taking.proofs.next_for.Given as goal

abbrev pub invariant-loop-next : goal.invariant-loop-next
invariant-loop-next l =
    stop_from (is_for l.active l.mem l.id) l.next (l.count - l.next) ≡ stop_from (is_for l.active l.mem l.id) l.k (l.count - l.k)
