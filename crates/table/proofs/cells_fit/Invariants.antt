-- `table::cells_fit` meets its contract. The invariant: the cells that are left fit exactly if all do. Assumes nothing.
use mathlib.Core.Path.{◌≡◌}
use Rattle.table.specs.Judging.{cells_fit}
use Rattle.table.proofs.cells_fit.Given as goal

abbrev pub invariant-loop-at : goal.invariant-loop-at
invariant-loop-at l = cells_fit l.cells l.at l.end ≡ cells_fit l.cells l.first l.end
