-- `queue_rows::write_taken` meets its contract. Assumes nothing.
use Prim.Native.Nat.{ℕ}
use mathlib.Core.Path.{◌≡◌, sym, ◌∙◌}
use native.Mathlib.Omega.{arith}
use lib.Dec.{T}
use lib.Ieee.{binary64, fits}
use Rattle.memory.specs.Words.{begin_in, held_in, own_in, replaced}
use Rattle.memory.specs.Places.{own_same}
use Rattle.queue_rows.specs.Rows.{own_after, took_words}
use Rattle.queue_rows.specs.RowLaws.{took-written, took-owns}
use borrow.Author.Rules.{rules}
use Rattle.queue_rows.proofs.write_taken.Goals as goal

pub returns-in-Err : goal.returns-in-Err
returns-in-Err c =
    let a = c.args in
    let e = c.answer_of.ensures in
    let g = c.in-Err.is in
    record { answers = sym g ∙ e; writes = (λ d. let z : ◌≡◌ {A = ℕ} 0 1 = cc in absurd (omega arith)); owns = own_same a.row (begin_in a.mem.now a.row) 64 0 0 a.mem.now }

pub returns-in-Ok : goal.returns-in-Ok
returns-in-Ok c =
    let a = c.args in
    let mem = a.mem.now in
    let b = begin_in mem a.row in
    let begin : c.begin_at-begin.result ≡ b = c.begin_at-begin.ensures in
    let held : c.held_at-held.result ≡ held_in mem a.row = c.held_at-held.ensures in
    let own : c.keep.new.mem ≡ replaced b 64 (own_after a.taken (held_in mem a.row) a.content (own_in b 64 mem)) mem = c.keep.ensures ∙ rw (begin, held) in
    let all : c.store.new.mem ≡ took_words b a.row a.next a.taken a.content mem = c.store.ensures ∙ rw own in
    let timer : T (fits binary64 a.next.timer) = search rules in
    let p = c.requires in
    record { answers = sym c.in-Ok.is ∙ c.answer_of.ensures; writes = (λ d. rw all (took-written b a.row mem p.0 a.next a.taken a.content timer p.1 p.2)); owns = rw all (took-owns b a.row mem p.0 a.next a.taken a.content) }
