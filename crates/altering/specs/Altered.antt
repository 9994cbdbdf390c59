-- The simulation after a call that changes a few words of a lent state. Definitions only. Assumes nothing.
use Rattle.std.specs.Prelude.{[], ◌∷◌, ◌++◌}
use Rattle.rules.specs.declared.Message.{Message}
use Rattle.rules.specs.Simulation.{Simulation}

-- one more active message, the last
abbrev pub with_message : Message → Simulation → Simulation
with_message m sim = record { table = sim.table; states = sim.states; active = sim.active ++ m ∷ []; clock = sim.clock; place = sim.place }
