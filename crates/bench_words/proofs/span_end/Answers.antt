-- `bench_words::span_end` meets its contract. The loop's invariant: the span from here on ends where the whole does. Assumes nothing.
use Rattle.std.proofs.Common.{refl, sym, ◌∙◌, arith}
use Rattle.bench_words.specs.SplittingLaws.{span-end, span_begins, span-stops}
use Rattle.bench_words.proofs.span_end.Goals as goal

pub loop-at-init : goal.loop-at-init
loop-at-init g c = λ passes agree. refl

pub returns-then-not-test : goal.returns-then-not-test
returns-then-not-test g c = λ passes agree.
    span-stops passes c.args.bytes.now _ c.loop-at.at c.loop-at-test.true (sym (agree _ _ c.test.ensures) ∙ c.if-not-test.true) (c.loop-at.invariant passes agree)

pub loop-at-preserved : goal.loop-at-preserved
loop-at-preserved g c = λ passes agree.
    span_begins passes c.args.bytes.now _ c.loop-at.at c.loop-at-test.true (sym (agree _ _ c.test.ensures) ∙ c.if-not-test.false) (c.loop-at.invariant passes agree)

pub returns : goal.returns
returns g c = λ passes agree.
    grind (arith, c.max.ensures, c.loop-at.invariant passes agree, span-end passes c.args.bytes.now c.loop-at.at c.loop-at-test.false, span-end passes c.args.bytes.now c.args.from, c.loop-at.auto.at-end)
