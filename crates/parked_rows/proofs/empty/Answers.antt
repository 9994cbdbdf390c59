-- `parked_rows::empty` meets its contract: all that are held go, and their places are cleared. Assumes nothing.
use Rattle.memory.specs.Words.{begin_in}
use Rattle.parked_rows.proofs.Laws.{emptied-by, empty-all, empty-own, empty-place}
use Rattle.parked_rows.proofs.empty.Goals as goal

pub returns : goal.returns
returns c =
    let a = c.args in
    let row = c.requires in
    let b = begin_in a.mem.now a.row in
    let at = c.begin_at-begin in
    let n = c.held_at-held in
    let up = c.move_up in
    let after = emptied-by b a.row a.mem.now row at.result n.result up.new.words at.ensures n.ensures up.ensures in
    record { emptied = rw (c.set_head.ensures, after) (empty-all b a.row a.mem.now row); owns = rw (c.set_head.ensures, after) (empty-own b a.row a.mem.now row); place = rw (c.set_head.ensures, after) (empty-place b a.row a.mem.now row) }
