-- `capacities::omitted` meets its contract. The invariant: the count and the count of the rows left are that of all. Assumes nothing.
use Rattle.std.proofs.Common.{arith, ◌∙◌, ap, length, length-append}
use Rattle.std.specs.Slice.Iter.{chunks_exact_rest}
use Rattle.capacities.specs.Rows.{counted_part, counted-one, counted-short}
use Rattle.capacities.proofs.omitted.Goals as goal

pub loop-cells-preserved : goal.loop-cells-preserved
loop-cells-preserved c =
    let step = c.in-Some.ensures.steps in
    let before = c.loop-cells.invariant in
    let ten = step.1.1 ∙ before.2 in
    let one = counted-one c.in-Some.cells.now in
    let cut = ap length step.1.0 ∙ length-append c.in-Some.cells.now (chunks_exact_rest c.next.new.self) in
    let next = counted_part (chunks_exact_rest c.loop-cells.cells-iterator) c.in-Some.cells.now (chunks_exact_rest c.next.new.self) step.1.0 ten in
    (omega arith, tt, step.0 ∙ before.2, omega arith, omega arith)

pub returns : goal.returns
returns c =
    let none = counted-short (chunks_exact_rest c.loop-cells.cells-iterator) (omega (arith, c.in-None.ensures.steps.1.0, c.loop-cells.invariant.2)) in
    omega (arith, none, c.loop-cells.invariant.4)
