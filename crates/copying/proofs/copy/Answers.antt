-- `copying::copy` meets its contract. The loop's invariant: k words are copied, and the rest is as it was. Assumes nothing.
use mathlib.Core.Path.{◌≡◌, ◌∙◌}
use Prim.Native.Nat.{◌+◌, ◌<◌}
use native.Mathlib.Omega.{arith}
use lib.ListN.{length}
use Rattle.copying.specs.CopiedLaws.{copied_more}
use borrow.Author.Rules.{rules}
use Rattle.copying.proofs.copy.Goals as goal

pub loop-k-preserved : goal.loop-k-preserved
loop-k-preserved c =
    let a = c.args in
    let l = c.loop-k in
    let in_src : a.start + l.k < length a.src.now = omega (arith, c.loop-k-test.true, c.requires) in
    let in_dst : l.k < length a.dst.now = omega (arith, c.loop-k-test.true, c.requires) in
    (rw l.invariant.0 (copied_more a.start l.k a.src.now a.dst.now in_src in_dst), search rules)

pub returns : goal.returns
returns c =
    let l = c.loop-k in
    let all : l.k ≡ c.args.n = omega (arith, c.loop-k-test.false, l.auto) in
    l.invariant.0 ∙ rw all
