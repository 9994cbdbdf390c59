-- `trace_blocks::put_numbers` meets its contract. The loop's invariant: the numbers before `i` are laid, and their words added. Assumes nothing.
use Prim.Native.Nat.{◌+◌}
use mathlib.Core.Path.{ap, ◌∙◌}
use native.Mathlib.Omega.{arith}
use Rattle.trace_blocks.specs.WritingLaws.{sum_more, numbers_more}
use borrow.Author.Rules.{rules}
use Rattle.trace_blocks.proofs.put_numbers.Goals as goal

pub loop-i-preserved : goal.loop-i-preserved
loop-i-preserved c =
    let l = c.loop-i in
    let rows = c.args.rows.now in
    let small = c.type_inv.rows l.i in (
      search rules,
      omega (arith, c.both-sum.ensures, l.invariant.1, small),
      ap (λ n. l.sum + n) c.both-sum.ensures ∙ sum_more rows l.i c.loop-i-test.true l.sum l.invariant.2,
      numbers_more rows l.i c.loop-i-test.true c.args.block.now l.block c.put_pair.new.block (omega (arith, c.requires.room)) l.invariant.3 c.put_pair.ensures,
    )
