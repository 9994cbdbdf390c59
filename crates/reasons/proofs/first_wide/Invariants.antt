-- `reasons::first_wide` meets its contract: the invariant: what is left to search finds what the whole search finds. Assumes nothing.
use Prim.Native.Nat.{◌-◌}
use mathlib.Core.Path.{◌≡◌}
use Rattle.reasons.specs.Checks.{first_wide}
use Rattle.reasons.proofs.first_wide.Given as goal

abbrev pub invariant-loop-at : goal.invariant-loop-at
invariant-loop-at l =
    first_wide l.cells l.at (l.end - l.at) ≡ first_wide l.cells l.first (l.end - l.first)
