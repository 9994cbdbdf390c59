-- `selection::next_connector` meets its contract. The loop: each connector from where it began to before `looked` has been looked at once, and what is left of the search is the whole. Assumes nothing.
use mathlib.Core.Path.{◌≡◌}
use Prim.Native.Nat.{◌-◌, ◌*◌}
use Rattle.selection.specs.Selecting.{connects, lead_at, connectors_in}
use Rattle.selection.specs.Looking.{Looking}
use Rattle.selection.proofs.next_connector.Given as goal

abbrev pub invariant-loop-start : goal.invariant-loop-start
invariant-loop-start l =
    (l.in_use ≡ connectors_in l.connectors)
    × (l.end ≡ l.in_use * 4)
    × (l.start ≡ l.looked * 4)
    × Looking (connects l.connectors l.source l.port) (lead_at l.connectors) l.in_use l.initial.looked l.looked

abbrev pub decreases-loop-start : goal.decreases-loop-start
decreases-loop-start l = l.end - l.start
