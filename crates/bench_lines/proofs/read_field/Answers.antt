-- `bench_lines::read_field` meets its contract, by the field's word and the next word. Assumes nothing.
use Rattle.std.proofs.Common.{◌-◌, take, drop, sym, ap, ◌∙◌, arith}
use Rattle.bench_words.specs.Texts.{same, text_in}
use Rattle.bench_words.specs.SplittingLaws.{word_none, word_some, word-inside}
use Rattle.bench_lines.specs.Reading.{read_value}
use Rattle.bench_lines.specs.declared.Word.TheVariants.{Nothing}
use Rattle.bench_lines.specs.ReadingLaws.{field-bare, field-none, field-other, field-there}
use Rattle.bench_lines.proofs.read_field.Goals as goal

pub returns-then-not-has_word : goal.returns-then-not-has_word
returns-then-not-has_word c =
    let a = c.args in
    let p = a.progress in
    (c.read_value.ensures.0, c.read_value.ensures.1 ∙ sym (field-bare a.line.now a.field p.or p.at p.cells (sym c.has_word.ensures ∙ c.if-not-has_word.true)))

pub returns-then-end-start : goal.returns-then-end-start
returns-then-end-start c =
    let a = c.args in
    let p = a.progress in
    let n = c.next_word-start in
    let named = sym c.has_word.ensures ∙ c.if-not-has_word.false in
    (omega (arith, c.left_out.ensures.0, c.requires), c.left_out.ensures.1 ∙ sym (field-none a.line.now a.field p.or p.at p.cells named (word_none a.line.now p.at n.result n.ensures c.if-end-start.true)))

pub slice_bounds-is_text-end : goal.slice_bounds-is_text-end
slice_bounds-is_text-end c =
    let n = c.next_word-start in
    omega (arith, word-inside c.args.line.now c.args.progress.at n.result n.ensures c.requires)

pub read_value-requires-then-is_text : goal.read_value-requires-then-is_text
read_value-requires-then-is_text c =
    let n = c.next_word-start in
    (word-inside c.args.line.now c.args.progress.at n.result n.ensures c.requires).1

pub returns-then-is_text : goal.returns-then-is_text
returns-then-is_text c =
    let a = c.args in
    let p = a.progress in
    let n = c.next_word-start in
    let named = sym c.has_word.ensures ∙ c.if-not-has_word.false in
    let w = take (n.result.end - n.result.start) (drop n.result.start a.line.now) in
    let is = sym (c.is_text.ensures ∙ ap (λ t. same w (text_in t)) c.word_text.ensures) ∙ c.if-is_text.true in
    let some = word_some a.line.now p.at n.result n.ensures c.if-end-start.false in
    (c.read_value-then-is_text.ensures.0, c.read_value-then-is_text.ensures.1 ∙ ap (λ s. read_value a.line.now a.field Nothing s.end p.cells) n.ensures ∙ sym (field-there a.line.now a.field p.or p.at p.cells named _ _ some is))

pub returns : goal.returns
returns c =
    let a = c.args in
    let p = a.progress in
    let n = c.next_word-start in
    let named = sym c.has_word.ensures ∙ c.if-not-has_word.false in
    let w = take (n.result.end - n.result.start) (drop n.result.start a.line.now) in
    let is = sym (c.is_text.ensures ∙ ap (λ t. same w (text_in t)) c.word_text.ensures) ∙ c.if-is_text.false in
    let some = word_some a.line.now p.at n.result n.ensures c.if-end-start.false in
    (omega (arith, c.left_out-2.ensures.0, c.requires), c.left_out-2.ensures.1 ∙ sym (field-other a.line.now a.field p.or p.at p.cells named _ _ some is))
