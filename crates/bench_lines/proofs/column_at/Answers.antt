-- `bench_lines::column_at` meets its contract. A word starts inside the line or at its end, so its column is a usize. Assumes nothing.
use native.Mathlib.Omega.{arith}
use Rattle.bench_words.specs.SplittingLaws.{word-inside}
use borrow.Author.Rules.{rules}
use Rattle.bench_lines.proofs.column_at.Goals as goal

pub overflow_add-result : goal.overflow_add-result
overflow_add-result c =
    let a = c.args in
    let n = c.next_word in
    let inside = word-inside a.line.now a.at n.result n.ensures c.requires in
    search (rules, inside)

pub returns : goal.returns
returns c = rw c.next_word.ensures (omega arith)
