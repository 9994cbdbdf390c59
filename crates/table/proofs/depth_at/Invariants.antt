-- `table::depth_at` meets its contract. The invariant: what the rows that are left make of the parent, with the depth so far, is the depth and 1. Assumes nothing.
use Prim.Native.Nat.{suc, ◌+◌, ◌≤◌, ◌<◌}
use mathlib.Core.Path.{◌≡◌}
use lib.ListN.{length}
use Rattle.table.specs.Readers.{depth_in}
use Rattle.table.proofs.Depths.{depth_from}
use Rattle.table.proofs.depth_at.Given as goal

abbrev pub invariant-loop-at : goal.invariant-loop-at
invariant-loop-at l = (depth_from l.models l.at l.parent + l.depth ≡ suc (depth_in l.models l.row)) × (l.depth + l.at ≤ suc l.row) × (l.row < length l.models)
