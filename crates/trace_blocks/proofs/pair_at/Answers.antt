-- `trace_blocks::pair_at` meets its contract: the eight bytes are those of its two words. Assumes nothing.
use native.Mathlib.Omega.{arith}
use Rattle.trace_blocks.specs.PairLaws.{pair-bytes}
use Rattle.trace_blocks.proofs.pair_at.Goals as goal

pub returns : goal.returns
returns c =
    let a = c.args in
    omega (arith, c.from_le_bytes.ensures, pair-bytes a.block.now a.pair)
