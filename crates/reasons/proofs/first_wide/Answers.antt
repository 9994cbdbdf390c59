-- `reasons::first_wide` meets its contract: the invariant: what is left to search finds what the whole search finds. Assumes nothing.
use mathlib.Core.Path.{sym, ap, ◌∙◌}
use mathlib.Core.Bool.{not}
use native.Mathlib.Omega.{arith}
use borrow.Author.Tests.{lt-ltb}
use Rattle.rules.specs.Sizes.{is_port}
use Rattle.rules.specs.Layout.{cell}
use Rattle.words.specs.SearchLaws.{search-skip}
use Rattle.reasons.proofs.first_wide.Goals as goal

pub loop-at-preserved : goal.loop-at-preserved
loop-at-preserved c =
    let row = c.args.cells.now in
    let at = c.loop-at.at in
    let fits = ap is_port (sym c.word_at.ensures) ∙ lt-ltb c.word_at.result 65536 (omega arith) in
    sym (search-skip (λ k. not (is_port (cell row k))) at _ c.loop-at-test.true (ap not fits)) ∙ c.loop-at.invariant
