-- `bench_file::line_of` meets its contract. The loop's invariant: the line is among those from here on, with so many rows before it. Assumes nothing.
use mathlib.Core.Path.{◌≡◌, sym, ap, ◌∙◌}
use Prim.Native.Nat.{◌-◌, ◌<◌}
use native.Mathlib.Omega.{arith}
use mathlib.Core.List.{[]}
use lib.ListN.{length, take, drop, drop_of_length-le}
use Rattle.bench_words.specs.Splitting.{lines_from, lines_of}
use Rattle.bench_file.specs.Filing.{next_line, line_in, line_of, is_on}
use Rattle.bench_file.specs.FilingLaws.{line-within, next-within, next-further, lines_at, row_here, row-later, mark-within}
use Rattle.bench_file.proofs.line_of.Goals as goal

pub loop-at-init : goal.loop-at-init
unfolding line_of
loop-at-init c = (omega (arith, c.mark_length-at.ensures, mark-within c.args.text.now), omega arith, rw c.mark_length-at.ensures)

pub slice_bounds-read_line-end : goal.slice_bounds-read_line-end
slice_bounds-read_line-end c =
    omega (arith, line-within c.args.text.now c.loop-at.at c.line_end-end.result c.line_end-end.ensures c.loop-at-test.true)

pub overflow_add-number : goal.overflow_add-number
overflow_add-number c =
    let l = c.loop-at in
    let few : l.number < length c.args.text.now = omega (arith, l.invariant.1, c.loop-at-test.true) in
    omega (arith, few, c.well_formed.0.0)

pub returns-then-is_it : goal.returns-then-is_it
returns-then-is_it c =
    let a = c.args in
    let text = a.text.now in
    let l = c.loop-at in
    let end = c.line_end-end in
    let line = take (end.result - l.at) (drop l.at text) in
    let rest = lines_of (drop (next_line (length text) end.result) text) in
    let on = c.is_on-on.ensures ∙ ap (λ r. is_on a.page r.said) c.read_line-line.ensures in
    let here = lines_at text l.at end.result end.ensures c.loop-at-test.true in
    sym (ap (λ ls. line_in a.page ls l.number l.left) here ∙ row_here a.page line rest l.number l.left c.is_on-on.result on (sym c.is_it.ensures ∙ c.if-is_it.true)) ∙ l.invariant.2

pub loop-at-smaller : goal.loop-at-smaller
loop-at-smaller c =
    let text = c.args.text.now in
    let l = c.loop-at in
    let end = c.line_end-end in
    omega (arith, c.next_line-at.ensures, next-further text l.at end.result end.ensures c.loop-at-test.true, next-within text l.at end.result end.ensures c.loop-at-test.true)

pub loop-at-preserved : goal.loop-at-preserved
loop-at-preserved c =
    let a = c.args in
    let text = a.text.now in
    let l = c.loop-at in
    let end = c.line_end-end in
    let line = take (end.result - l.at) (drop l.at text) in
    let rest = lines_of (drop (next_line (length text) end.result) text) in
    let on = c.is_on-on.ensures ∙ ap (λ r. is_on a.page r.said) c.read_line-line.ensures in
    let here = lines_at text l.at end.result end.ensures c.loop-at-test.true in
    let further = next-further text l.at end.result end.ensures c.loop-at-test.true in
    let within = next-within text l.at end.result end.ensures c.loop-at-test.true in
    let goes = ap (λ ls. line_in a.page ls l.number l.left) here ∙ row-later a.page line rest l.number l.left c.is_on-on.result on (sym c.is_it.ensures ∙ c.if-is_it.false) in
    (omega (arith, c.next_line-at.ensures, within), omega (arith, c.next_line-at.ensures, further, l.invariant.1), (rw (c.next_line-at.ensures, c.left_after-left.ensures)) ∙ sym goes ∙ l.invariant.2)

pub returns : goal.returns
unfolding lines_from
returns c =
    let text = c.args.text.now in
    let l = c.loop-at in
    let done : drop l.at text ≡ [] = drop_of_length-le text {i = l.at} c.loop-at-test.false in
    rw done at l.invariant.2
