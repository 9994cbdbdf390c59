-- `trace_blocks::fills_block` meets its contract. Assumes nothing.
use native.Mathlib.Omega.{arith}
use Rattle.trace_blocks.specs.BlockLaws.{kind-is}
use Rattle.trace_blocks.proofs.fills_block.Goals as goal

pub nonzero_rem-numbers : goal.nonzero_rem-numbers
nonzero_rem-numbers c = omega (arith, (kind-is c.args.kind c.requires).wide)

pub overflow_mul-result : goal.overflow_mul-result
overflow_mul-result c = record { fits = omega (arith, (kind-is c.args.kind c.requires).room) }
