-- `words::matches_at` meets its contract. The loop's invariant: the cells from here on say what the whole key says. Assumes nothing.
use Rattle.std.proofs.Common.{◌≡◌, drop}
use Rattle.rules.specs.Base.{every}
use Rattle.words.specs.Search.{holds_in, matches}
use Rattle.words.proofs.matches_at.Given as goal

abbrev pub invariant-loop-cell : goal.invariant-loop-cell
invariant-loop-cell l =
    every (holds_in l.width l.words l.row) (drop l.cell-index l.key) ≡ matches l.key l.width l.words l.row
