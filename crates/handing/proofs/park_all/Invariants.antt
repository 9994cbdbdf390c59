-- `handing::park_all` meets its contract. The loop: what is left to park, from the memory reached, is what was to be parked. Assumes nothing.
use Prim.Native.Nat.{◌-◌}
use lib.ListN.{length}
use Rattle.lookup.specs.Inside.{table_in}
use Rattle.handing.proofs.Parking.{Parking}
use Rattle.handing.proofs.park_all.Given as goal

abbrev pub invariant-loop-coupling : goal.invariant-loop-coupling
invariant-loop-coupling l = Parking l.state l.row l.source l.port l.content l.initial.mem l.from l.mem

abbrev pub decreases-loop-coupling : goal.decreases-loop-coupling
decreases-loop-coupling l = length (table_in l.state).couplings - l.from
