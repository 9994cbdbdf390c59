-- `engine::run` meets its contract. The loop: the steps taken and the rest from the words as they stand are the whole run. Assumes nothing.
use Prim.Native.Nat.{◌-◌, ◌≤◌}
use mathlib.Core.Path.{◌≡◌}
use lib.ListN.{length}
use Rattle.lookup.specs.Inside.{table_in}
use Rattle.rerunning.specs.Running.{sim_of}
use Rattle.engine.specs.RunLaws.{Underway}
use Rattle.engine.proofs.run.Given as goal

abbrev pub invariant-loop-steps : goal.invariant-loop-steps
invariant-loop-steps l =
    (l.steps ≤ l.bound)
    × (length l.mem ≡ length l.initial.mem)
    × (length l.rows ≡ length l.initial.rows)
    × Underway l.services l.until l.room l.bound (table_in l.state) (sim_of l.state) l.initial.rows l.mem l.rows l.steps l.written

abbrev pub decreases-loop-steps : goal.decreases-loop-steps
decreases-loop-steps l =
    l.bound - l.steps
