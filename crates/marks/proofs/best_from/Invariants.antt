-- `marks::best_from` meets its contract. The loop's invariant: the best of the rest, from the best so far, is the best of all. Assumes nothing.
use Rattle.std.proofs.Common.{◌≡◌, ◌-◌, ◌≤◌, T}
use lib.Ieee.{binary64, fits}
use Rattle.marks.specs.Sweeps.{best_from}
use Rattle.marks.proofs.best_from.Given as goal

abbrev pub invariant-loop-k : goal.invariant-loop-k
invariant-loop-k l =
    (l.k ≤ l.held) × T (fits binary64 l.best.length) × (best_from l.metric l.words l.best l.k (l.held - l.k) ≡ best_from l.metric l.words l.initial.best l.after (l.held - l.after))
