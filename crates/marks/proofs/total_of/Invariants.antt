-- `marks::total_of` meets its contract. The loop's invariant: the total so far, with the rest added, is the total of all. Assumes nothing.
use Rattle.std.proofs.Common.{◌≡◌, ◌-◌, ◌≤◌, T}
use lib.Ieee.{binary64, fits}
use Rattle.marks.specs.Sweeps.{total_from, no_total}
use Rattle.marks.proofs.total_of.Given as goal

abbrev pub invariant-loop-k : goal.invariant-loop-k
invariant-loop-k l =
    (l.k ≤ l.held) × (l.total.count ≤ l.k) × (total_from l.words l.total l.k (l.held - l.k) ≡ total_from l.words no_total 0 l.held) × T (fits binary64 l.total.sum)
