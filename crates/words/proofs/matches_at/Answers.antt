-- `words::matches_at` meets its contract. Each cell of a whole row is one of the words. Assumes nothing.
use Rattle.std.proofs.Common.{length, sym, ◌∙◌, arith, eq-eqb, ne_eqb}
use Rattle.words.specs.declared.Cell.{Cell}
use Rattle.words.specs.Search.{holds_in}
use Rattle.words.specs.SearchLaws.{cell_among, row_among, every_next, every_stops, every_none}
use Rattle.words.proofs.matches_at.Goals as goal

abbrev no_cell : Cell
no_cell = record { at = 0; value = 0 }

pub overflow_mul-start : goal.overflow_mul-start
overflow_mul-start c =
    let a = c.args in
    omega (arith, row_among a.key.now a.width c.requires.0 (length a.words.now) a.row c.requires.1)

pub overflow_add-start : goal.overflow_add-start
overflow_add-start c =
    let a = c.args in
    omega (arith, cell_among a.key.now a.width c.requires.0 (length a.words.now) a.row c.loop-cell.cell-index no_cell c.requires.1 c.loop-cell-test.true)

pub bounds-words-start : goal.bounds-words-start
bounds-words-start c =
    let a = c.args in
    cell_among a.key.now a.width c.requires.0 (length a.words.now) a.row c.loop-cell.cell-index no_cell c.requires.1 c.loop-cell-test.true

pub offset_bounds-words-start : goal.offset_bounds-words-start
offset_bounds-words-start c =
    let a = c.args in
    omega (arith, cell_among a.key.now a.width c.requires.0 (length a.words.now) a.row c.loop-cell.cell-index no_cell c.requires.1 c.loop-cell-test.true)

pub returns : goal.returns
returns c =
    let a = c.args in
    sym (every_none (holds_in a.width a.words.now a.row) a.key.now c.loop-cell.cell-index c.loop-cell-test.false) ∙ c.loop-cell.invariant

pub returns-then-words-start : goal.returns-then-words-start
returns-then-words-start c =
    let a = c.args in
    sym (every_stops (holds_in a.width a.words.now a.row) a.key.now c.loop-cell.cell-index _ c.loop-cell-test.true (ne_eqb _ _ c.if-words-start.true)) ∙ c.loop-cell.invariant

pub loop-cell-preserved : goal.loop-cell-preserved
loop-cell-preserved c =
    let a = c.args in
    sym (every_next (holds_in a.width a.words.now a.row) a.key.now c.loop-cell.cell-index _ c.loop-cell-test.true (eq-eqb _ _ c.if-words-start.false)) ∙ c.loop-cell.invariant
