-- `capacities::omitted` meets its contract. The invariant: the count and the count of the rows left are that of all. Assumes nothing.
use Rattle.std.proofs.Common.{◌≡◌, ◌+◌, ◌≤◌, length}
use Rattle.std.specs.Slice.Iter.{chunks_exact_rest, chunks_exact_size}
use Rattle.rules.specs.Layout.{omitted_in}
use Rattle.capacities.proofs.omitted.Given as goal

abbrev pub invariant-loop-cells : goal.invariant-loop-cells
invariant-loop-cells l =
    (goal.iterator-loop-cells).can_next l.cells-iterator
    × (goal.iterator-loop-cells).is_finite l.cells-iterator
    × (chunks_exact_size l.cells-iterator ≡ 10)
    × (l.count + length (chunks_exact_rest l.cells-iterator) ≤ length l.models)
    × (l.count + omitted_in (chunks_exact_rest l.cells-iterator) ≡ omitted_in l.models)
