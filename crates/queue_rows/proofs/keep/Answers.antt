-- `queue_rows::keep` meets its contract. Assumes nothing.
use mathlib.Core.Path.{◌≡◌, sym, ◌∙◌}
use mathlib.Core.Bool.{true}
use Prim.Native.Nat.{◌+◌, ◌-◌}
use native.Mathlib.Omega.{arith}
use Rattle.memory.specs.Words.{own_in}
use Rattle.queue_rows.specs.Rows.{joins, own_after}
use Rattle.memory.specs.Places.{put_back, replaced-same}
use Rattle.queue_rows.proofs.keep.Goals as goal

pub returns-then-not-is_joined : goal.returns-then-not-is_joined
returns-then-not-is_joined c =
    let a = c.args in
    rw (← c.is_joined.ensures, c.if-not-is_joined.true) (replaced-same a.begin 64 a.mem.now)

pub returns : goal.returns
returns c =
    let a = c.args in
    let mem = a.mem.now in
    let width : a.begin + 64 - a.begin ≡ 64 = omega arith in
    let joined : joins a.taken ≡ true = sym c.is_joined.ensures ∙ c.if-not-is_joined.false in
    let own : c.push.new.words ≡ own_after a.taken a.held a.content (own_in a.begin 64 mem) = c.push.ensures ∙ rw (width, joined) in
    put_back a.begin 64 mem c.push.new.words ∙ rw own
