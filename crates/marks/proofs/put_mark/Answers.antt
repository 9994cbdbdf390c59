-- `marks::put_mark` meets its contract: the column is one of the two, and the place is inside. Assumes nothing.
use Rattle.std.proofs.Common.{arith}
use Rattle.marks.specs.SweepLaws.{column-low}
use Rattle.marks.proofs.put_mark.Goals as goal

pub overflow_add-place : goal.overflow_add-place
overflow_add-place c = omega (arith, column-low c.args.mark)

pub offset_bounds-words-place : goal.offset_bounds-words-place
offset_bounds-words-place c = omega (arith, column-low c.args.mark)

pub bounds-words-place : goal.bounds-words-place
bounds-words-place c = omega (arith, column-low c.args.mark)

pub returns : goal.returns
returns c = rw (c.column.ensures, c.bits_of.ensures)
