-- `marks::fetch_from` meets its contract. The loop's invariant: the jobs passed are incomplete, so the rest gives the answer. Assumes nothing.
use Rattle.std.proofs.Common.{◌≡◌, ◌-◌, ◌≤◌}
use Rattle.marks.specs.Sweeps.{fetched_from}
use Rattle.marks.proofs.fetch_from.Given as goal

abbrev pub invariant-loop-k : goal.invariant-loop-k
invariant-loop-k l = (l.k ≤ l.held) × (fetched_from l.metric l.words l.k (l.held - l.k) ≡ fetched_from l.metric l.words 0 l.held)
