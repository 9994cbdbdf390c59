-- `capacities::write_out` meets its contract. The invariant: what is written and the migration of the rest are the migration of all, and so are the counts. Assumes nothing.
use Rattle.std.proofs.Common.{◌≡◌, ◌+◌, ◌*◌, ◌≤◌, length, ◌++◌, take, drop}
use Rattle.rules.specs.Layout.{omitted_in}
use Rattle.capacities.specs.Migration.{written_out}
use Rattle.capacities.proofs.write_out.Given as goal

abbrev pub invariant-loop-row : goal.invariant-loop-row
invariant-loop-row l =
    (length l.models ≡ length l.initial.models)
    × (l.count ≤ l.row)
    × (l.count + omitted_in (drop (10 * l.row) l.models) ≡ omitted_in l.initial.models)
    × (take (10 * l.row) l.models ++ written_out (drop (10 * l.row) l.models) ≡ written_out l.initial.models)
