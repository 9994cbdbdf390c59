-- `words::in_row` meets its contract. Assumes nothing.
use Rattle.std.proofs.Common.{ltb, rules, tests, sym, ◌∙◌}
use borrow.Author.Tests.{lt-ltb}
use Rattle.std.proofs.lemmas.Iterator.{YieldsList-from_slice}
use Rattle.std.proofs.lemmas.Iterator.Search.{all_from_yields_List}
use Rattle.words.specs.declared.Cell.{Cell}
use Rattle.words.specs.SearchLaws.{every-all}
use Rattle.words.proofs.in_row.Goals as goal

pub returns-then-width-gt0 : goal.returns-then-width-gt0
returns-then-width-gt0 c =
    let a = c.args in
    all_from_yields_List (λ (cell : Cell). ltb cell.at a.width) _ _ c.all.result c.all.ensures.ran (YieldsList-from_slice a.key.now cc) (λ x b q k. search (rules, tests))
    ∙ sym (every-all (λ (cell : Cell). ltb cell.at a.width) a.key.now)
    ∙ sym (rw (lt-ltb 0 a.width c.if-width-gt0.true))
