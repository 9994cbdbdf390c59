-- `queue_rows::batcher_external` meets its contract. Assumes nothing.
use Prim.Native.Nat.{◌+◌, ◌≤◌}
use mathlib.Core.Path.{◌≡◌}
use native.Mathlib.Omega.{arith}
use lib.ListN.{length}
use Rattle.memory.specs.Words.{head_at, begin_in, held_in}
use Rattle.queue_rows.specs.Rows.{jobs_at}
use Rattle.queue_rows.specs.RowLaws.{held-jobs}
use Rattle.queue_rows.proofs.Laws.{batcher-queued, batcher-holds, batcher-took}
use Rattle.queue_rows.proofs.batcher_external.Goals as goal

pub load_batcher-state-requires : goal.load_batcher-state-requires
load_batcher-state-requires c =
    let a = c.args in
    let mem = a.mem.now in
    let q = batcher-queued (begin_in mem a.row) mem a.row a.model c.requires in
    let there : head_at a.row + 4 ≤ length mem = omega arith in
    (there, q.timer)

pub write_taken-requires : goal.write_taken-requires
write_taken-requires c =
    let a = c.args in
    let mem = a.mem.now in
    let b = begin_in mem a.row in
    let jobs = jobs_at b mem a.row in
    let q = batcher-queued b mem a.row a.model c.requires in
    let count : length jobs ≡ held_in mem a.row = held-jobs b mem a.row q in
    let few : length jobs ≤ 64 = omega arith in
    let same = c.load_batcher-state.ensures in
    let r = c.external_rule-taken.result in
    let t = rw same at (c.external_rule-taken.ensures jobs a.content (rw same count)) in
    let head = c.batcher_head-head.ensures in
    (q, rw head t.holds, rw head (batcher-holds a.model b a.row mem r.next a.content r.answer t few))

pub returns : goal.returns
returns c =
    let a = c.args in
    let mem = a.mem.now in
    let b = begin_in mem a.row in
    let jobs = jobs_at b mem a.row in
    let q = batcher-queued b mem a.row a.model c.requires in
    let count : length jobs ≡ held_in mem a.row = held-jobs b mem a.row q in
    let few : length jobs ≤ 64 = omega arith in
    let same = c.load_batcher-state.ensures in
    let r = c.external_rule-taken.result in
    let t = rw same at (c.external_rule-taken.ensures jobs a.content (rw same count)) in
    let writes = rw c.batcher_head-head.ensures at c.write_taken.ensures.writes in
    record { takes = (λ services clock port. rw c.write_taken.ensures.answers (batcher-took a.model b a.row mem r.next a.content r.answer services clock port c.write_taken.new.mem t writes)); owns = c.write_taken.ensures.owns }
