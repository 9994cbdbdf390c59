-- `rerunning::load_fresh` meets its contract. Assumes nothing.
use mathlib.Core.Path.{refl}
use Rattle.memory.specs.Words.{word_at}
use Rattle.rerunning.specs.RunningLaws.{copy-fits, lends_held, loads-held}
use Rattle.rerunning.proofs.load_fresh.Goals as goal

pub bounds-state-tail : goal.bounds-state-tail
bounds-state-tail c =
    let a = c.args in
    (copy-fits a.state.now a.mem.now c.requires.0 c.requires.1 c.tail_at-tail.result (word_at a.state.now c.tail_at-tail.result) a.active c.tail_at-tail.ensures refl c.requires.2).0

pub copy_held-requires : goal.copy_held-requires
copy_held-requires c =
    let a = c.args in
    lends_held a.state.now a.mem.now c.requires.0 c.requires.1 c.tail_at-tail.result (word_at a.state.now c.tail_at-tail.result) a.active c.tail_at-tail.ensures refl c.requires.2 c.row_count-rows.result c.row_count-rows.ensures c.requires.3

pub returns : goal.returns
returns c =
    let a = c.args in
    let l = loads-held a.state.now a.mem.now c.requires.0 c.requires.1 c.tail_at-tail.result (word_at a.state.now c.tail_at-tail.result) a.active c.tail_at-tail.ensures refl c.requires.2 c.copy_held.new.dst c.copy_held.ensures in
    record { loads = l.0; sound = l.1; long = l.2 }
