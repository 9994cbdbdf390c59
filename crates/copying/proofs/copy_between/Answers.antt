-- `copying::copy_between` meets its contract. The loop's invariant: the words before k are copied. Assumes nothing.
use mathlib.Core.Path.{◌≡◌, subst}
use Prim.Native.Nat.{ℕ, ◌<◌, ◌≤◌}
use native.Mathlib.Omega.{arith}
use lib.ListN.{length}
use Rattle.copying.specs.Sparing.{Brought}
use Rattle.copying.specs.SparingLaws.{brought-none, brought-more}
use borrow.Author.Rules.{rules}
use Rattle.copying.proofs.copy_between.Goals as goal

pub loop-k-init : goal.loop-k-init
loop-k-init c =
    let a = c.args in
    (search rules, brought-none a.src.now a.from a.dst.now)

pub loop-k-preserved : goal.loop-k-preserved
loop-k-preserved c =
    let a = c.args in
    let l = c.loop-k in
    let from : a.from ≤ l.k = omega (arith, l.auto) in
    let in_dst : l.k < length l.dst = omega (arith, c.loop-k-test.true, c.requires, l.invariant.0) in
    (search rules, brought-more a.src.now a.from l.k a.dst.now l.dst from in_dst l.invariant.1)

pub returns : goal.returns
returns c =
    let a = c.args in
    let l = c.loop-k in
    let all : l.k ≡ a.to = omega (arith, c.loop-k-test.false, c.requires, l.auto) in
    subst (λ (k : ℕ). Brought a.from k a.src.now a.dst.now l.dst) all l.invariant.1
