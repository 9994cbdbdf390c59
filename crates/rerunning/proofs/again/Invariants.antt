-- `rerunning::again` meets its contract. The loop: the words hold the simulation after so many steps. Assumes nothing.
use Prim.Native.Nat.{◌≤◌, ◌-◌}
use mathlib.Core.Path.{◌≡◌}
use lib.ListN.{length}
use Rattle.rules.specs.Base.{done}
use Rattle.lookup.specs.Inside.{table_in}
use Rattle.stepping.specs.Simulating.{sim_in, Sound}
use Rattle.rerunning.specs.Running.{sim_of, reached}
use Rattle.rerunning.proofs.again.Given as goal

abbrev pub invariant-loop-completed : goal.invariant-loop-completed
invariant-loop-completed l =
    (length l.mem ≡ length l.initial.mem)
    × Sound (table_in l.state) l.mem
    × (reached (table_in l.state) l.services l._completed (sim_of l.state) ≡ done (sim_in (table_in l.state) l.mem))
    × (l._completed ≤ l.steps)

abbrev pub decreases-loop-completed : goal.decreases-loop-completed
decreases-loop-completed l =
    l.steps - l._completed
