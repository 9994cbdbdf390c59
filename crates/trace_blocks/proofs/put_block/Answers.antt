-- `trace_blocks::put_block` meets its contract: its four parts, one behind the other, are the block. Assumes nothing.
use Prim.Native.Nat.{ℕ, ◌+◌, ◌-◌, ◌*◌, ◌%◌}
use mathlib.Core.Path.{ap, ◌∙◌}
use mathlib.Core.List.{[], ◌∷◌}
use native.Mathlib.Omega.{arith}
use lib.ListN.{length}
use Rattle.words.specs.Laying.{laid}
use Rattle.trace_blocks.specs.Blocks.{word_limit, bytes_of, halves}
use Rattle.trace_blocks.specs.WritingLaws.{writable, block-laid}
use Rattle.trace_blocks.proofs.put_block.Goals as goal

pub nonzero_div-head : goal.nonzero_div-head
nonzero_div-head c = omega (arith, (writable c.args.kind (length c.args.rows.now) (length c.args.block.now) c.requires).0)

pub overflow_mul-head : goal.overflow_mul-head
overflow_mul-head c = record { fits = omega (arith, (writable c.args.kind (length c.args.rows.now) (length c.args.block.now) c.requires).3) }

pub overflow_add-head : goal.overflow_add-head
overflow_add-head c = record { fits = omega (arith, (writable c.args.kind (length c.args.rows.now) (length c.args.block.now) c.requires).3, c.ranges.number) }

pub put_pair-requires : goal.put_pair-requires
put_pair-requires c = omega (arith, (writable c.args.kind (length c.args.rows.now) (length c.args.block.now) c.requires).2)

pub put_numbers-requires : goal.put_numbers-requires
put_numbers-requires c = record { few = omega (arith, (writable c.args.kind (length c.args.rows.now) (length c.args.block.now) c.requires).1); room = omega (arith, (writable c.args.kind (length c.args.rows.now) (length c.args.block.now) c.requires).2, c.put_pair.auto.block) }

pub overflow_add-sum : goal.overflow_add-sum
overflow_add-sum c = record { fits = omega (arith, c.put_numbers.ensures.bounded, c.both.ensures, (writable c.args.kind (length c.args.rows.now) (length c.args.block.now) c.requires).3, c.ranges.number) }

pub clear-requires : goal.clear-requires
clear-requires c = (omega (arith, (writable c.args.kind (length c.args.rows.now) (length c.args.block.now) c.requires).1), omega (arith, (writable c.args.kind (length c.args.rows.now) (length c.args.block.now) c.requires).2, c.put_pair.auto.block, c.put_numbers.auto.block))

pub last_pair-requires : goal.last_pair-requires
last_pair-requires c = omega (arith, c.put_numbers.ensures.bounded, c.both.ensures, (writable c.args.kind (length c.args.rows.now) (length c.args.block.now) c.requires).3, c.ranges.number)

pub put_pair-requires-2 : goal.put_pair-requires-2
put_pair-requires-2 c = omega (arith, (writable c.args.kind (length c.args.rows.now) (length c.args.block.now) c.requires).2, c.put_pair.auto.block, c.put_numbers.auto.block, c.clear.auto.block)

pub returns : goal.returns
returns c =
    let a = c.args in
    let can = writable c.args.kind (length c.args.rows.now) (length c.args.block.now) c.requires in
    block-laid a.kind a.number a.rows.now can.1 c.ranges.number.fits c.last_pair.ensures.bounded
    a.block.now c.put_pair.new.block c.put_numbers.new.block c.clear.new.block c.put_pair-2.new.block c.requires
    c.put_pair.ensures c.put_numbers.ensures.lays c.clear.ensures
    (c.put_pair-2.ensures
    ∙ ap (λ (n : ℕ). laid (63 * 8) (bytes_of (halves (n ∷ []))) c.clear.new.block)
    (c.last_pair.ensures.pairs ∙ ap (λ (n : ℕ). a.kind.mark + (word_limit - 1 - (n + a.kind.mark) % word_limit) * word_limit) (λ i. c.both.ensures i + c.put_numbers.ensures.adds i)))
