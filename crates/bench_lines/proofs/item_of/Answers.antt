-- `bench_lines::item_of` meets its contract. The loop's invariant: the search from here on gives what the whole search gives. Assumes nothing.
use Rattle.std.proofs.Common.{sym, ap, ◌∙◌, refl}
use Rattle.bench_words.specs.Texts.{same, text_in}
use Rattle.bench_lines.specs.Forms.{items}
use Rattle.bench_lines.specs.ReadingLaws.{item-found, item-other}
use Rattle.bench_lines.proofs.item_of.Goals as goal

pub returns-then-is_text : goal.returns-then-is_text
returns-then-is_text c =
    let name = c.args.name.now in
    let l = c.loop-item in
    let is = sym (c.is_text.ensures ∙ ap (λ t. same name (text_in t)) c.item_text.ensures) ∙ c.if-is_text.true in
    sym (item-found name items l.item-index _ c.loop-item-test.true refl is) ∙ l.invariant

pub loop-item-preserved : goal.loop-item-preserved
loop-item-preserved c =
    let name = c.args.name.now in
    let l = c.loop-item in
    let is = sym (c.is_text.ensures ∙ ap (λ t. same name (text_in t)) c.item_text.ensures) ∙ c.if-is_text.false in
    sym (item-other name items l.item-index _ c.loop-item-test.true refl is) ∙ l.invariant
