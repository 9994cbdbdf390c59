-- `asking::get_status` meets its contract. The loop: of the models without parent that have the id, none was passed over. Assumes nothing.
use Prim.Native.Nat.{◌-◌}
use mathlib.Core.Path.{◌≡◌}
use lib.ListN.{length}
use Rattle.lookup.specs.Inside.{table_in}
use Rattle.asking.specs.AskLaws.{wanted}
use Rattle.asking.proofs.get_status.Given as goal

abbrev pub invariant-loop-row : goal.invariant-loop-row
invariant-loop-row l =
    wanted l.id (table_in l.state) 0 ≡ wanted l.id (table_in l.state) l.from

abbrev pub decreases-loop-row : goal.decreases-loop-row
decreases-loop-row l =
    length (table_in l.state).rows - l.from
