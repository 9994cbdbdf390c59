-- `words::shift` meets its contract. The loop's invariant: `place` words have moved to the front, and the rest is as it was. Assumes nothing.
use mathlib.Core.Path.{◌≡◌, ◌∙◌}
use Prim.Native.Nat.{◌+◌, ◌<◌, ◌-◌}
use native.Mathlib.Omega.{arith}
use lib.ListN.{length}
use Rattle.words.proofs.Laws.{moved_more, moved_all}
use borrow.Author.Rules.{rules}
use Rattle.words.proofs.shift.Goals as goal

pub loop-place-preserved : goal.loop-place-preserved
loop-place-preserved c =
    let a = c.args in
    let l = c.loop-place in
    let h : l.place + a.gone < length a.words.now = omega (arith, c.loop-place-test.true, c.requires) in
    (rw l.invariant.0 (moved_more a.gone l.place a.words.now h), search rules)

pub returns : goal.returns
returns c =
    let a = c.args in
    let l = c.loop-place in
    let all : l.place ≡ a.end - a.gone = omega (arith, c.loop-place-test.false, c.loop-place.auto) in
    l.invariant.0 ∙ rw all (moved_all a.gone a.end a.words.now)
