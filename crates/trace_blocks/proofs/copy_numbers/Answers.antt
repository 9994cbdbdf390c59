-- `trace_blocks::copy_numbers` meets its contract. The loop's invariant: the numbers up to here are those of the block. Assumes nothing.
use native.Mathlib.Omega.{arith}
use Rattle.trace_blocks.specs.PairLaws.{number_more}
use Rattle.trace_blocks.proofs.copy_numbers.Goals as goal

pub loop-i-preserved : goal.loop-i-preserved
loop-i-preserved c = number_more c.args.block.now c.loop-i.rows c.loop-i.i c.pair_at.result (omega arith) c.loop-i.invariant c.pair_at.ensures
