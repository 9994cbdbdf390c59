-- `words::next_row` meets its contract. The loop's invariant: the search from here on gives what the whole search gives. Assumes nothing.
use Rattle.std.proofs.Common.{◌≡◌, ◌-◌}
use Rattle.words.specs.Search.{first_from, matches, next_row}
use Rattle.words.proofs.next_row.Given as goal

abbrev pub invariant-loop-row : goal.invariant-loop-row
invariant-loop-row l =
    first_from (matches l.key l.width l.words) l.row (l.end - l.row) ≡ next_row l.key l.width l.from l.rows l.words
