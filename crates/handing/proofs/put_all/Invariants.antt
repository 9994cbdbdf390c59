-- `handing::put_all` meets its contract. The loop: what is left to put out, after what stands there, is what was to be put out. Assumes nothing.
use Prim.Native.Nat.{◌-◌}
use lib.ListN.{length}
use Rattle.lookup.specs.Inside.{table_in}
use Rattle.handing.proofs.Putting.{Putting}
use Rattle.handing.proofs.put_all.Given as goal

abbrev pub invariant-loop-coupling : goal.invariant-loop-coupling
invariant-loop-coupling l =
    Putting l.state l.owner l.source l.port l.content l.at l.count l.initial.mem l.from l.held l.mem

abbrev pub decreases-loop-coupling : goal.decreases-loop-coupling
decreases-loop-coupling l = length (table_in l.state).couplings - l.from
