-- `bench_lines::read_line` meets its contract, by the line's first word. Assumes nothing.
use Rattle.std.proofs.Common.{sym, ap, ◌∙◌, arith}
use Rattle.bench_words.specs.SplittingLaws.{word_none, word_some, word-inside}
use Rattle.bench_lines.specs.Forms.{form_of, fields_in, start_of}
use Rattle.bench_lines.specs.Reading.{read_line, line_of, read_fields, wrong_at}
use Rattle.bench_lines.specs.declared.Word.TheVariants.{Nothing}
use Rattle.bench_lines.proofs.read_line.Goals as goal

pub returns-then-end-start : goal.returns-then-end-start
unfolding read_line
returns-then-end-start c =
    let n = c.next_word-start in
    rw (word_none c.args.line.now 0 n.result n.ensures c.if-end-start.true, c.column_at.ensures)

pub slice_bounds-item_of-end : goal.slice_bounds-item_of-end
slice_bounds-item_of-end c =
    let n = c.next_word-start in
    omega (arith, word-inside c.args.line.now 0 n.result n.ensures (omega arith))

pub read_form-requires : goal.read_form-requires
read_form-requires c =
    let n = c.next_word-start in
    (word-inside c.args.line.now 0 n.result n.ensures (omega arith)).1

pub returns-in-Some : goal.returns-in-Some
unfolding read_line
returns-in-Some c =
    let n = c.next_word-start in
    let line = c.args.line.now in
    let item = c.in-Some.item in
    c.ended.ensures
    ∙ ap (line_of line item) (c.read_form.ensures.1 ∙ ap (λ s. read_fields line (fields_in (form_of item)) Nothing s.end (start_of item)) n.ensures)
    ∙ sym (rw (word_some line 0 n.result n.ensures c.if-end-start.false, sym c.item_of.ensures ∙ c.in-Some.is))

pub returns-in-None : goal.returns-in-None
unfolding read_line
returns-in-None c =
    let n = c.next_word-start in
    let line = c.args.line.now in
    c.wrong_at.ensures
    ∙ ap (λ e. wrong_at line e 0) c.only.ensures
    ∙ sym (rw (word_some line 0 n.result n.ensures c.if-end-start.false, sym c.item_of.ensures ∙ c.in-None.is))
