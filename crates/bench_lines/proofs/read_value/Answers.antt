-- `bench_lines::read_value` meets its contract, by the next word. Assumes nothing.
use Rattle.std.proofs.Common.{sym, ap, ◌∙◌, arith}
use Rattle.bench_words.specs.SplittingLaws.{word_none, word_some, word-inside}
use Rattle.bench_lines.proofs.read_value.Goals as goal

pub returns-then-is_end : goal.returns-then-is_end
returns-then-is_end c =
    let line = c.args.line.now in
    let n = c.next_word-start in
    (c.requires, rw (word_none line c.args.progress.at n.result n.ensures c.if-end-start.true, sym c.is_end.ensures ∙ c.if-is_end.true))

pub returns-then-end-start : goal.returns-then-end-start
returns-then-end-start c =
    let line = c.args.line.now in
    let n = c.next_word-start in
    rw c.wrong.ensures (c.requires, rw (word_none line c.args.progress.at n.result n.ensures c.if-end-start.true, sym c.is_end.ensures ∙ c.if-is_end.false))

pub slice_bounds-value_of-end : goal.slice_bounds-value_of-end
slice_bounds-value_of-end c =
    let n = c.next_word-start in
    omega (arith, word-inside c.args.line.now c.args.progress.at n.result n.ensures c.requires)

pub returns-in_default : goal.returns-in_default
returns-in_default c =
    let line = c.args.line.now in
    let n = c.next_word-start in
    rw c.wrong-in_default.ensures (c.requires, rw (word_some line c.args.progress.at n.result n.ensures c.if-end-start.false, sym c.value_of.ensures ∙ c.in_default.is))

pub returns : goal.returns
returns c =
    let line = c.args.line.now in
    let n = c.next_word-start in
    let inside = (word-inside line c.args.progress.at n.result n.ensures c.requires).1 in
    let here = ap (λ s. s.end) n.ensures in
    (inside, rw (word_some line c.args.progress.at n.result n.ensures c.if-end-start.false, sym c.value_of.ensures ∙ c.in-Some.is, c.keep.ensures, here))
