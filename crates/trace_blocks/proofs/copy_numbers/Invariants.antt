-- `trace_blocks::copy_numbers` meets its contract. The loop's invariant: the numbers up to here are those of the block. Assumes nothing.
use mathlib.Core.Path.{◌≡◌}
use lib.ListN.{take}
use Rattle.trace_blocks.specs.Blocks.{numbers_in}
use Rattle.trace_blocks.proofs.copy_numbers.Given as goal

abbrev pub invariant-loop-i : goal.invariant-loop-i
invariant-loop-i l = take l.i l.rows ≡ numbers_in l.i l.block
