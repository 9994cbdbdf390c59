-- `marks::put_name` meets its contract: three stores, and each keeps the length. Assumes nothing.
use Rattle.std.proofs.Common.{arith, length-set}
use Rattle.marks.proofs.put_name.Goals as goal

pub bounds-words-k-2 : goal.bounds-words-k-2
bounds-words-k-2 c = simp (length-set) (omega arith)

pub bounds-words-k-3 : goal.bounds-words-k-3
bounds-words-k-3 c = simp (length-set) (omega arith)

pub returns : goal.returns
returns c = rw (c.bits_of-unmade.ensures, c.never.ensures)
