-- `words::next_row` meets its contract. The loop's invariant: the search from here on gives what the whole search gives. Assumes nothing.
use Rattle.std.proofs.Common.{sym, ◌∙◌, arith, length, ◌/◌}
use Rattle.std.proofs.Math.Nat.{min-le_right}
use Rattle.words.specs.SearchLaws.{search-end, search-hit, search-skip, row-wide, next-row-none, next-row-some}
use Rattle.words.proofs.next_row.Goals as goal

pub returns-then-not-in_row : goal.returns-then-not-in_row
returns-then-not-in_row c =
    let a = c.args in
    sym (next-row-none a.key.now a.width a.from a.rows a.words.now (sym c.in_row.ensures ∙ c.if-not-in_row.true))

pub nonzero_div-words : goal.nonzero_div-words
nonzero_div-words c =
    let a = c.args in
    omega (arith, row-wide a.key.now a.width (sym c.in_row.ensures ∙ c.if-not-in_row.false))

pub loop-row-init : goal.loop-row-init
loop-row-init c =
    let a = c.args in
    rw c.min-end.ensures (sym (next-row-some a.key.now a.width a.from a.rows a.words.now (sym c.in_row.ensures ∙ c.if-not-in_row.false)))

pub matches_at-requires : goal.matches_at-requires
matches_at-requires c =
    let a = c.args in
    (sym c.in_row.ensures ∙ c.if-not-in_row.false, omega (arith, c.min-end.ensures, min-le_right a.rows (length a.words.now / a.width)))

pub returns-then-matches_at : goal.returns-then-matches_at
returns-then-matches_at c =
    let l = c.loop-row in
    sym (search-hit _ l.row _ c.loop-row-test.true (sym c.matches_at.ensures ∙ c.if-matches_at.true)) ∙ l.invariant

pub loop-row-preserved : goal.loop-row-preserved
loop-row-preserved c =
    let l = c.loop-row in
    sym (search-skip _ l.row _ c.loop-row-test.true (sym c.matches_at.ensures ∙ c.if-matches_at.false)) ∙ l.invariant

pub returns : goal.returns
returns c =
    let l = c.loop-row in
    sym (search-end _ l.row _ c.loop-row-test.false) ∙ l.invariant
