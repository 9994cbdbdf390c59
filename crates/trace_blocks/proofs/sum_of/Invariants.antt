-- `trace_blocks::sum_of` meets its contract. The loop's invariant: the sum so far and that of the words from here on are the whole sum; so far it is small. Assumes nothing.
use Prim.Native.Nat.{◌+◌, ◌*◌, ◌≤◌}
use mathlib.Core.Path.{◌≡◌}
use Rattle.trace_blocks.specs.PairLaws.{sum_from}
use Rattle.trace_blocks.proofs.sum_of.Given as goal

abbrev pub invariant-loop-pair : goal.invariant-loop-pair
invariant-loop-pair l = (l.sum ≤ l.pair * 0x2_0000_0000) × (l.sum + sum_from l.block l.pair ≡ sum_from l.block 0)
