-- `trace_blocks::is_clear` meets its contract. The loop's invariant: the words from here on decide as all of them. Assumes nothing.
use mathlib.Core.Path.{sym, ◌∙◌}
use native.Mathlib.Omega.{arith}
use Rattle.trace_blocks.specs.PairLaws.{clear_from, clear-on, clear-not, clear-end}
use Rattle.trace_blocks.proofs.is_clear.Goals as goal

pub returns-then-pair_at-ne0 : goal.returns-then-pair_at-ne0
unfolding clear_from
returns-then-pair_at-ne0 c =
    let l = c.loop-pair in
    sym (clear-not c.args.block.now l.pair (omega arith) (λ e. c.if-pair_at-ne0.true (c.pair_at.ensures ∙ e))) ∙ l.invariant

pub loop-pair-preserved : goal.loop-pair-preserved
loop-pair-preserved c =
    let l = c.loop-pair in
    sym (clear-on c.args.block.now l.pair (omega arith) (sym c.pair_at.ensures ∙ c.if-pair_at-ne0.false)) ∙ l.invariant

pub returns : goal.returns
unfolding clear_from
returns c =
    let l = c.loop-pair in
    sym (clear-end c.args.block.now l.pair (omega arith)) ∙ l.invariant
