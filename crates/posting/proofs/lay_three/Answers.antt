-- `posting::lay_three` meets its contract. Assumes nothing.
use Prim.Native.Nat.{◌+◌}
use native.Mathlib.Omega.{arith}
use lib.ListN.{set, length-set}
use Rattle.posting.specs.LayingLaws.{three-laid}
use Rattle.posting.proofs.lay_three.Goals as goal

pub bounds-state-at-2 : goal.bounds-state-at-2
bounds-state-at-2 c =
    let a = c.args in
    omega (arith, length-set a.state.now a.at a.first)

pub bounds-state-at-3 : goal.bounds-state-at-3
bounds-state-at-3 c =
    let a = c.args in
    let one = set a.state.now a.at a.first in
    omega (arith, length-set a.state.now a.at a.first, length-set one (a.at + 1) a.second)

pub returns : goal.returns
returns c =
    let a = c.args in
    three-laid a.at a.first a.second a.third a.state.now c.requires
