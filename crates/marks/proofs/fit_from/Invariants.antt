-- `marks::fit_from` meets its contract. The loop's invariant: the jobs passed fit, so the rest gives the answer. Assumes nothing.
use Rattle.std.proofs.Common.{◌≡◌, ◌-◌, ◌≤◌}
use Rattle.marks.specs.Sweeps.{fit_from}
use Rattle.marks.proofs.fit_from.Given as goal

abbrev pub invariant-loop-k : goal.invariant-loop-k
invariant-loop-k l = (l.k ≤ l.held) × (fit_from l.words l.k (l.held - l.k) ≡ fit_from l.words 0 l.held)
