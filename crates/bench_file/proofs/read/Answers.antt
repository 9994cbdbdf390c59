-- `bench_file::read` meets its contract. The loop's invariant: the lines from here on, with what is filed, give what the whole file gives. Assumes nothing.
use mathlib.Core.Path.{◌≡◌, sym, ap, ◌∙◌}
use Prim.Native.Nat.{◌+◌, ◌-◌, ◌<◌}
use native.Mathlib.Omega.{arith}
use mathlib.Core.List.{[]}
use lib.ListN.{length, take, drop, drop_of_length-le}
use Rattle.bench_words.specs.Splitting.{lines_from, lines_of}
use Rattle.std.specs.Prelude.{Err}
use Rattle.bench_file.specs.Filing.{pages_at, counts_of, fault_of, filing, file_said, next_line, ending, wrong_line, read_from, read_file}
use Rattle.bench_file.specs.FilingLaws.{line-within, next-within, next-further, lines_at, file-goes, file-stops, mark-within}
use borrow.Author.Rules.{rules}
use Rattle.bench_file.proofs.read.Goals as goal

pub loop-at-init : goal.loop-at-init
unfolding read_file
loop-at-init c =
    let text = c.args.text.now in
    (omega (arith, c.mark_length-at.ensures, mark-within text), omega arith, search rules, search rules, search rules, search rules, search rules, rw (c.no_counts-counts.ensures, c.mark_length-at.ensures))

pub slice_bounds-read_line-end : goal.slice_bounds-read_line-end
slice_bounds-read_line-end c =
    omega (arith, line-within c.args.text.now c.loop-at.at c.line_end-end.result c.line_end-end.ensures c.loop-at-test.true)

pub overflow_add-lines : goal.overflow_add-lines
overflow_add-lines c =
    let l = c.loop-at in
    let few : l.lines < length c.args.text.now = omega (arith, l.invariant.1, c.loop-at-test.true) in
    omega (arith, few, c.well_formed.0.0)

pub shape_of-models-in-Err : goal.shape_of-models-in-Err
shape_of-models-in-Err c =
    c.put_line.auto.models ∙ c.loop-at.invariant.2

pub shape_of-connectors-in-Err : goal.shape_of-connectors-in-Err
shape_of-connectors-in-Err c =
    c.put_line.auto.connectors ∙ c.loop-at.invariant.3

pub shape_of-couplings-in-Err : goal.shape_of-couplings-in-Err
shape_of-couplings-in-Err c =
    c.put_line.auto.couplings ∙ c.loop-at.invariant.4

pub shape_of-services-in-Err : goal.shape_of-services-in-Err
shape_of-services-in-Err c =
    c.put_line.auto.services ∙ c.loop-at.invariant.5

pub shape_of-actions-in-Err : goal.shape_of-actions-in-Err
shape_of-actions-in-Err c =
    c.put_line.auto.actions ∙ c.loop-at.invariant.6

pub returns-in-Err : goal.returns-in-Err
returns-in-Err c =
    let text = c.args.text.now in
    let l = c.loop-at in
    let put = c.put_line in
    let pages = pages_at l.models l.connectors l.couplings l.services l.actions in
    let line = take (c.line_end-end.result - l.at) (drop l.at text) in
    let rest = lines_of (drop (next_line (length text) c.line_end-end.result) text) in
    let filed = filing l.counts put.result (pages_at put.new.models put.new.connectors put.new.couplings put.new.services put.new.actions) in
    let e = put.ensures ∙ ap (λ r. file_said r.said r.cells l.counts pages) c.read_line-line.ensures in
    let here = lines_at text l.at c.line_end-end.result c.line_end-end.ensures c.loop-at-test.true in
    ap (λ r. ending (Err (wrong_line (l.lines + 1) r.column c.in-Err.expected)) filed.pages) c.read_line-line.ensures ∙ sym (ap (λ ls. read_from ls l.lines l.counts pages) here ∙ file-stops line rest l.lines l.counts pages filed e c.in-Err.expected (ap fault_of c.in-Err.is)) ∙ l.invariant.7

pub loop-at-smaller : goal.loop-at-smaller
loop-at-smaller c =
    let text = c.args.text.now in
    omega (arith, c.next_line-at.ensures, next-further text c.loop-at.at c.line_end-end.result c.line_end-end.ensures c.loop-at-test.true, next-within text c.loop-at.at c.line_end-end.result c.line_end-end.ensures c.loop-at-test.true)

pub loop-at-preserved : goal.loop-at-preserved
loop-at-preserved c =
    let text = c.args.text.now in
    let l = c.loop-at in
    let put = c.put_line in
    let pages = pages_at l.models l.connectors l.couplings l.services l.actions in
    let line = take (c.line_end-end.result - l.at) (drop l.at text) in
    let rest = lines_of (drop (next_line (length text) c.line_end-end.result) text) in
    let filed = filing l.counts put.result (pages_at put.new.models put.new.connectors put.new.couplings put.new.services put.new.actions) in
    let e = put.ensures ∙ ap (λ r. file_said r.said r.cells l.counts pages) c.read_line-line.ensures in
    let here = lines_at text l.at c.line_end-end.result c.line_end-end.ensures c.loop-at-test.true in
    let further = next-further text l.at c.line_end-end.result c.line_end-end.ensures c.loop-at-test.true in
    let within = next-within text l.at c.line_end-end.result c.line_end-end.ensures c.loop-at-test.true in
    let goes = ap (λ ls. read_from ls l.lines l.counts pages) here ∙ file-goes line rest l.lines l.counts pages filed e (ap fault_of c.in-Ok.is) in (
      omega (arith, c.next_line-at.ensures, within),
      omega (arith, c.next_line-at.ensures, further, l.invariant.1),
      put.auto.models ∙ l.invariant.2,
      put.auto.connectors ∙ l.invariant.3,
      put.auto.couplings ∙ l.invariant.4,
      put.auto.services ∙ l.invariant.5,
      put.auto.actions ∙ l.invariant.6,
      ap (λ a. read_from (lines_of (drop a text)) (l.lines + 1) c.in-Ok.more filed.pages) c.next_line-at.ensures ∙ sym (goes ∙ ap (λ r. read_from rest (l.lines + 1) (counts_of l.counts r) filed.pages) c.in-Ok.is) ∙ l.invariant.7,
    )

pub returns : goal.returns
unfolding lines_from
returns c =
    let text = c.args.text.now in
    let l = c.loop-at in
    let done : drop l.at text ≡ [] = drop_of_length-le text {i = l.at} c.loop-at-test.false in
    rw done at l.invariant.7
