-- `parked_rows::park` meets its contract: the message's word is read as the message again. Assumes nothing.
use Prim.Native.Nat.{◌<◌}
use mathlib.Core.Path.{refl, ap, ◌∙◌}
use native.Mathlib.Omega.{arith}
use lib.ListN.{length, length-set}
use Rattle.rules.specs.Simulation.{Parked}
use Rattle.memory.specs.Words.{held_in, begin_in}
use Rattle.memory.specs.Places.{own_same}
use Rattle.parked_rows.proofs.Laws.{Narrow, park-full, park-one, park-own, park-place}
use borrow.Author.Rules.{rules}
use Rattle.parked_rows.proofs.park.Goals as goal

pub returns-then-held-ge64 : goal.returns-then-held-ge64
returns-then-held-ge64 c =
    let a = c.args in
    let m : Parked = record { component = a.component; port = a.port; content = a.content } in
    let b = begin_in a.mem.now a.row in
    record { parks = park-full b a.row a.mem.now c.requires.0 m (omega arith); owns = own_same a.row b 64 0 0 a.mem.now; place = refl }

pub set_head-requires : goal.set_head-requires
set_head-requires c = simp length-set (omega arith)

pub shape_of-mem : goal.shape_of-mem
shape_of-mem c = ap length c.set_head.ensures ∙ simp length-set

pub returns : goal.returns
returns c =
    let a = c.args in
    let m : Parked = record { component = a.component; port = a.port; content = a.content } in
    let b = begin_in a.mem.now a.row in
    let narrow : Narrow m = record { port = search rules; content = search rules } in
    let free : held_in a.mem.now a.row < 64 = omega arith in
    let at = c.begin_at-begin in
    let n = c.held_at-held in
    record { parks = rw (c.set_head.ensures, at.ensures, n.ensures) (park-one b a.row a.mem.now c.requires.0 m narrow free); owns = rw (c.set_head.ensures, at.ensures, n.ensures) (park-own b a.row a.mem.now c.requires.0 m narrow free); place = rw (c.set_head.ensures, at.ensures, n.ensures) (park-place b a.row a.mem.now c.requires.0 m narrow free) }
