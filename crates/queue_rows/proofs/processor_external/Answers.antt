-- `queue_rows::processor_external` meets its contract. Assumes nothing.
use Prim.Native.Nat.{◌+◌, ◌≤◌}
use mathlib.Core.Path.{◌≡◌}
use native.Mathlib.Omega.{arith}
use lib.ListN.{length}
use Rattle.memory.specs.Words.{head_at, begin_in, held_in}
use Rattle.queue_rows.specs.Rows.{jobs_at}
use Rattle.queue_rows.specs.RowLaws.{held-jobs}
use Rattle.queue_rows.proofs.Laws.{processor-queued, processor-holds, processor-took}
use Rattle.queue_rows.proofs.processor_external.Goals as goal

pub load_processor-state-requires : goal.load_processor-state-requires
load_processor-state-requires c =
    let a = c.args in
    let mem = a.mem.now in
    let q = processor-queued (begin_in mem a.row) mem a.row a.model c.requires in
    let there : head_at a.row + 4 ≤ length mem = omega arith in
    (there, q.timer)

pub write_taken-requires : goal.write_taken-requires
write_taken-requires c =
    let a = c.args in
    let mem = a.mem.now in
    let b = begin_in mem a.row in
    let jobs = jobs_at b mem a.row in
    let q = processor-queued b mem a.row a.model c.requires in
    let count : length jobs ≡ held_in mem a.row = held-jobs b mem a.row q in
    let same = c.load_processor-state.ensures in
    let r = c.external_rule-taken.result in
    let t = rw same at (c.external_rule-taken.ensures jobs a.content (rw same count)) in
    let head = c.processor_head-head.ensures in
    let few : length jobs ≤ 64 = omega arith in
    (q, rw head t.holds, rw head (processor-holds a.model a.services.now b a.row mem r.next r.place a.port a.content r.answer t few))

pub returns : goal.returns
returns c =
    let a = c.args in
    let mem = a.mem.now in
    let b = begin_in mem a.row in
    let jobs = jobs_at b mem a.row in
    let q = processor-queued b mem a.row a.model c.requires in
    let count : length jobs ≡ held_in mem a.row = held-jobs b mem a.row q in
    let same = c.load_processor-state.ensures in
    let r = c.external_rule-taken.result in
    let t = rw same at (c.external_rule-taken.ensures jobs a.content (rw same count)) in
    let head = c.processor_head-head.ensures in
    let writes = rw head at c.write_taken.ensures.writes in
    record { takes = (λ clock. rw c.write_taken.ensures.answers (processor-took a.model a.services.now b a.row mem r.next r.place a.port a.content r.answer clock c.write_taken.new.mem t writes)); owns = c.write_taken.ensures.owns }
