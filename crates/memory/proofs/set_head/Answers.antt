-- `memory::set_head` meets its contract. Assumes nothing.
use Prim.Native.Nat.{◌+◌, ◌<◌}
use native.Mathlib.Omega.{arith}
use lib.ListN.{length, set, length-set}
use Rattle.memory.specs.Words.{head_at}
use Rattle.memory.proofs.set_head.Goals as goal

pub bounds-mem-head-2 : goal.bounds-mem-head-2
bounds-mem-head-2 c =
    let a = c.args in
    let h : head_at a.row + 1 < length (set a.mem.now (head_at a.row) a.phase) = simp length-set (omega arith) in
    h

pub bounds-mem-head-3 : goal.bounds-mem-head-3
bounds-mem-head-3 c =
    let a = c.args in
    let h : head_at a.row + 2 < length (set (set a.mem.now (head_at a.row) a.phase) (head_at a.row + 1) a.timer) = simp length-set (omega arith) in
    h
