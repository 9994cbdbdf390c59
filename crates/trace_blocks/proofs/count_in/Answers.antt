-- `trace_blocks::count_in` meets its contract: word 1 is the high one of the first pair. Assumes nothing.
use mathlib.Core.Bool.{true, false}
use mathlib.Core.Path.{◌≡◌, ap, ◌∙◌}
use Prim.Native.Nat.{ℕ, ◌/◌}
use native.Mathlib.Omega.{arith}
use lib.ListN.{length}
use lib.Dec.{leb}
use borrow.Author.Tests.{le-leb, lt-leb}
use Rattle.trace_blocks.specs.Blocks.{block_bytes, word_limit}
use Rattle.trace_blocks.specs.Pairs.{count_out}
use Rattle.trace_blocks.specs.PairLaws.{pair-high}
use Rattle.trace_blocks.proofs.count_in.Goals as goal

pub returns-then-block-ge-BLOCK_BYTES : goal.returns-then-block-ge-BLOCK_BYTES
unfolding count_out
returns-then-block-ge-BLOCK_BYTES c =
    let block = c.args.block.now in
    let long : leb block_bytes (length block) ≡ true = le-leb block_bytes (length block) (omega arith) in
    ap (λ (n : ℕ). n / word_limit) c.pair_at.ensures ∙ pair-high block (λ i. omega (arith, c.type_inv.block i)) 0 ∙ (rw long)

pub returns-else-block-ge-BLOCK_BYTES : goal.returns-else-block-ge-BLOCK_BYTES
unfolding count_out
returns-else-block-ge-BLOCK_BYTES c =
    let block = c.args.block.now in
    let short : leb block_bytes (length block) ≡ false = lt-leb block_bytes (length block) (omega arith) in
    rw short
