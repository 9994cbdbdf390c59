-- `table::first_bad` meets its contract. The invariant: the search from the row on finds what the whole search finds. Assumes nothing.
use Prim.Native.Nat.{ℕ}
use mathlib.Core.Path.{sym, ap, ◌∙◌}
use mathlib.Core.Bool.{not}
use mathlib.Core.List.{List}
use native.Mathlib.Omega.{arith}
use Rattle.words.specs.SearchLaws.{search-end, search-hit, search-skip}
use Rattle.rules.specs.Layout.{cell}
use Rattle.table.specs.Judging.{width_of}
use Rattle.table.specs.Rising.{most-next}
use Rattle.table.proofs.Laws.{count-ceil}
use Rattle.table.proofs.first_bad.Goals as goal

pub returns-then-not-keeps : goal.returns-then-not-keeps
returns-then-not-keeps c =
    let a = c.args in
    let l = c.loop-row in
    let n = c.div_ceil-row-end.ensures ∙ count-ceil a.part a.slice.now l.invariant.0 in
    sym (search-hit _ l.row _ (rw n at c.loop-row-test.true) (ap not (sym c.keeps.ensures) ∙ ap not c.if-not-keeps.true)) ∙ l.invariant.2

pub loop-row-preserved : goal.loop-row-preserved
loop-row-preserved c =
    let a = c.args in
    let l = c.loop-row in
    let n = c.div_ceil-row-end.ensures ∙ count-ceil a.part a.slice.now l.invariant.0 in
    let first = c.word_at.ensures ∙ ap (λ (w : List ℕ). cell w 0) (rw l.invariant.0 at c.row_from-cells.ensures) in (
      l.invariant.0,
      most-next (width_of a.part) a.slice.now l.row l.invariant.1 (omega (arith, c.max-greatest.ensures)) (omega (arith, first, c.max-greatest.ensures)),
      sym (search-skip _ l.row _ (rw n at c.loop-row-test.true) (ap not (sym c.keeps.ensures) ∙ ap not c.if-not-keeps.false)) ∙ l.invariant.2,
    )

pub returns : goal.returns
returns c =
    let a = c.args in
    let l = c.loop-row in
    let n = c.div_ceil-row-end.ensures ∙ count-ceil a.part a.slice.now l.invariant.0 in
    sym (search-end _ l.row _ (rw n at c.loop-row-test.false)) ∙ l.invariant.2
