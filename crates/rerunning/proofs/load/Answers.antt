-- `rerunning::load` meets its contract. Assumes nothing.
use mathlib.Core.Path.{refl}
use native.Mathlib.Omega.{arith}
use Rattle.memory.specs.Words.{word_at}
use Rattle.rerunning.specs.RunningLaws.{copy-fits, loads-all}
use Rattle.rerunning.proofs.load.Goals as goal

-- src/lib.rt:31:17
pub bounds-state-tail : goal.bounds-state-tail
bounds-state-tail c =
    let a = c.args in
    (copy-fits a.state.now a.mem.now c.requires.0 c.requires.1 c.tail_at-tail.result (word_at a.state.now c.tail_at-tail.result) a.active c.tail_at-tail.ensures refl c.requires.2).0

-- src/lib.rt:32:46
pub overflow_mul-count : goal.overflow_mul-count
overflow_mul-count c =
    let a = c.args in
    let f = copy-fits a.state.now a.mem.now c.requires.0 c.requires.1 c.tail_at-tail.result (word_at a.state.now c.tail_at-tail.result) a.active c.tail_at-tail.ensures refl c.requires.2 in
    omega (arith, f.1)

-- src/lib.rt:32:37
pub overflow_add-active : goal.overflow_add-active
overflow_add-active c =
    let a = c.args in
    let f = copy-fits a.state.now a.mem.now c.requires.0 c.requires.1 c.tail_at-tail.result (word_at a.state.now c.tail_at-tail.result) a.active c.tail_at-tail.ensures refl c.requires.2 in
    omega (arith, f.3, c.well_formed.1.0.0)

-- src/lib.rt:32:5
pub copy-requires : goal.copy-requires
copy-requires c =
    let a = c.args in
    let f = copy-fits a.state.now a.mem.now c.requires.0 c.requires.1 c.tail_at-tail.result (word_at a.state.now c.tail_at-tail.result) a.active c.tail_at-tail.ensures refl c.requires.2 in
    (f.2, f.3)

-- src/lib.rt:24:1
pub returns : goal.returns
returns c =
    let a = c.args in
    let l = loads-all a.state.now a.mem.now c.requires.0 c.requires.1 c.tail_at-tail.result (word_at a.state.now c.tail_at-tail.result) a.active c.tail_at-tail.ensures refl c.requires.2 c.copy.new.dst c.copy.ensures in
    record { loads = l.0; sound = l.1; long = l.2 }
