-- `queue_rows::write_gone` meets its contract. Assumes nothing.
use Prim.Native.Nat.{ℕ, ◌+◌, ◌≤◌}
use mathlib.Core.Path.{◌≡◌, ◌∙◌}
use native.Mathlib.Omega.{arith}
use lib.ListN.{length, drop}
use lib.Dec.{T}
use lib.Ieee.{binary64, fits}
use Rattle.words.specs.Queue.{moved_up}
use Rattle.memory.specs.Words.{begin_in, held_in, own_in, replaced}
use Rattle.memory.specs.Places.{own_same}
use Rattle.queue_rows.specs.Rows.{put_words, went_words, jobs_at}
use Rattle.queue_rows.specs.RowLaws.{gone-few, gone-contents, went-wrote, went-owns}
use borrow.Author.Rules.{rules}
use Rattle.queue_rows.proofs.write_gone.Goals as goal

pub put_out-requires : goal.put_out-requires
put_out-requires c =
    let a = c.args in
    let p = c.requires in
    let mem = a.mem.now in
    let b = begin_in mem a.row in
    let n = c.in-Ok.count in
    let some : n ≤ length (jobs_at b mem a.row) = rw c.in-Ok.is at p.3 in
    let begin : c.begin_at-begin.result ≡ b = c.begin_at-begin.ensures in
    (gone-few b a.row mem p.0 n some, rw begin p.1, p.2, rw begin (gone-contents b a.row mem p.0 n some))

pub returns-in-Err : goal.returns-in-Err
returns-in-Err c =
    let a = c.args in
    let g = c.in-Err.is in
    record { answers = rw g; writes = (λ n d. let z : ◌≡◌ {A = ℕ} 0 1 = cc in absurd (omega arith)); owns = own_same a.row (begin_in a.mem.now a.row) 64 a.at (a.at + 64) a.mem.now }

pub returns-in-Ok : goal.returns-in-Ok
returns-in-Ok c =
    let a = c.args in
    let p = c.requires in
    let mem = a.mem.now in
    let b = begin_in mem a.row in
    let n = c.in-Ok.count in
    let is = c.in-Ok.is in
    let some : n ≤ length (jobs_at b mem a.row) = rw is at p.3 in
    let begin : c.begin_at-begin.result ≡ b = c.begin_at-begin.ensures in
    let held : c.held_at-held.result ≡ held_in mem a.row = c.held_at-held.ensures in
    let outs : c.put_out.new.mem ≡ put_words b a.at a.port mem n = c.put_out.ensures ∙ rw begin in
    let own : c.let_go.new.mem ≡ replaced b 64 (moved_up n (held_in mem a.row) (own_in b 64 c.put_out.new.mem)) c.put_out.new.mem = c.let_go.ensures ∙ rw (begin, held) in
    let all : c.store.new.mem ≡ went_words b a.row a.next a.at a.port mem n = c.store.ensures ∙ rw (own, outs) in
    let timer : T (fits binary64 a.next.timer) = search rules in
    let rest : length (drop n (jobs_at b mem a.row)) ≡ a.next.held = rw is at p.4 in
    record { answers = rw is; writes = (λ m e. let same : m ≡ n = cc in rw (same, all) (went-wrote b a.row mem p.0 a.next a.at a.port n p.1 p.2 some timer rest)); owns = rw all (went-owns b a.row mem p.0 a.next a.at a.port n p.1 p.2 some) }
