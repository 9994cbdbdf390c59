-- `queue_rows::let_go` meets its contract. Assumes nothing.
use mathlib.Core.Path.{◌≡◌, ◌∙◌}
use Prim.Native.Nat.{◌+◌, ◌-◌}
use native.Mathlib.Omega.{arith}
use Rattle.words.specs.Queue.{moved_up}
use Rattle.memory.specs.Words.{own_in}
use Rattle.memory.specs.Places.{put_back, replaced-same}
use Rattle.queue_rows.specs.RowLaws.{none-gone}
use Rattle.queue_rows.proofs.let_go.Goals as goal

pub returns-then-gone-eq0 : goal.returns-then-gone-eq0
returns-then-gone-eq0 c =
    let a = c.args in
    rw (c.if-gone-eq0.true, ← none-gone a.held (own_in a.begin 64 a.mem.now)) (replaced-same a.begin 64 a.mem.now)

pub returns : goal.returns
returns c =
    let a = c.args in
    let mem = a.mem.now in
    let width : a.begin + 64 - a.begin ≡ 64 = omega arith in
    let own : c.move_up.new.words ≡ moved_up a.gone a.held (own_in a.begin 64 mem) = c.move_up.ensures ∙ rw width in
    put_back a.begin 64 mem c.move_up.new.words ∙ rw own
