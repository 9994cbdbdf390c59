-- `queue_rows::processor_internal` meets its contract. Assumes nothing.
use Prim.Native.Nat.{◌+◌, ◌≤◌}
use mathlib.Core.Path.{◌≡◌}
use native.Mathlib.Omega.{arith}
use lib.ListN.{length}
use Rattle.memory.specs.Words.{head_at, begin_in, held_in}
use Rattle.queue_rows.specs.Rows.{jobs_at}
use Rattle.queue_rows.specs.RowLaws.{held-jobs}
use Rattle.queue_rows.proofs.Laws.{processor-queued, processor-gave}
use Rattle.queue_rows.proofs.processor_internal.Goals as goal

pub load_processor-state-requires : goal.load_processor-state-requires
load_processor-state-requires c =
    let a = c.args in
    let mem = a.mem.now in
    let q = processor-queued (begin_in mem a.row) mem a.row a.model c.requires.0 in
    let there : head_at a.row + 4 ≤ length mem = omega arith in
    (there, q.timer)

pub write_gone-requires : goal.write_gone-requires
write_gone-requires c =
    let a = c.args in
    let mem = a.mem.now in
    let b = begin_in mem a.row in
    let jobs = jobs_at b mem a.row in
    let q = processor-queued b mem a.row a.model c.requires.0 in
    let count : length jobs ≡ held_in mem a.row = held-jobs b mem a.row q in
    let few : length jobs ≤ 64 = omega arith in
    let same = c.load_processor-state.ensures in
    let r = c.internal_rule-gone.result in
    let t = rw same at (c.internal_rule-gone.ensures jobs (rw same count)) in
    let head = c.processor_head-head.ensures in
    (q, c.requires.1, c.requires.2, t.within, rw head t.holds)

pub returns : goal.returns
returns c =
    let a = c.args in
    let mem = a.mem.now in
    let b = begin_in mem a.row in
    let jobs = jobs_at b mem a.row in
    let q = processor-queued b mem a.row a.model c.requires.0 in
    let count : length jobs ≡ held_in mem a.row = held-jobs b mem a.row q in
    let few : length jobs ≤ 64 = omega arith in
    let same = c.load_processor-state.ensures in
    let r = c.internal_rule-gone.result in
    let t = rw same at (c.internal_rule-gone.ensures jobs (rw same count)) in
    let writes = rw c.processor_head-head.ensures at c.write_gone.ensures.writes in
    record { gives = rw c.write_gone.ensures.answers (processor-gave a.model a.services.now b a.row mem r.next r.place a.at c.write_gone.new.mem r.answer t few writes); owns = c.write_gone.ensures.owns }
