-- `copying::copy_rows` meets its contract. The loop: from `next` on all is copied. Assumes nothing.
use Prim.Native.Nat.{suc, ◌-◌}
use mathlib.Core.Path.{◌≡◌, refl, ◌∙◌}
use native.Mathlib.Omega.{arith}
use Rattle.copying.specs.SparingLaws.{going_start, few-held, row-alike, going_on}
use Rattle.copying.proofs.copy_rows.Goals as goal

pub loop-row-init : goal.loop-row-init
loop-row-init c =
    let a = c.args in
    (refl, going_start a.rows a.end a.src.now a.dst.now c.requires)

pub either_held-held-requires : goal.either_held-held-requires
either_held-held-requires c =
    let a = c.args in
    let l = c.loop-row in
    let one : l.row ≡ suc (l.row - 1) = omega (arith, c.loop-row-test.true) in
    let few = few-held a.rows a.end a.src.now a.dst.now l.dst l.row l.next (l.row - 1) l.invariant.1 one in
    (omega (arith, few.0, c.held_at.ensures), omega (arith, few.1, c.held_at-in-loop-row.ensures))

pub copy_row-requires : goal.copy_row-requires
copy_row-requires c =
    let a = c.args in
    let l = c.loop-row in
    let one : l.row ≡ suc (l.row - 1) = omega (arith, c.loop-row-test.true) in
    row-alike a.rows a.end a.src.now a.dst.now l.dst l.row l.next (l.row - 1) l.invariant.1 one c.begin_at-begin.result c.either_held-held.result c.begin_at-begin.ensures (omega (arith, c.either_held-held.ensures.0, c.held_at.ensures)) (omega (arith, c.either_held-held.ensures.1, c.held_at-in-loop-row.ensures)) c.either_held-held.ensures.2

pub loop-row-preserved : goal.loop-row-preserved
loop-row-preserved c =
    let a = c.args in
    let l = c.loop-row in
    let one : l.row ≡ suc (l.row - 1) = omega (arith, c.loop-row-test.true) in
    (c.copy_row.auto.dst ∙ l.invariant.0, going_on a.rows a.end a.src.now a.dst.now l.dst l.row l.next (l.row - 1) l.invariant.1 one c.begin_at-begin.result c.either_held-held.result c.begin_at-begin.ensures (omega (arith, c.either_held-held.ensures.0, c.held_at.ensures)) (omega (arith, c.either_held-held.ensures.1, c.held_at-in-loop-row.ensures)) c.either_held-held.ensures.2 c.copy_row.new.dst c.copy_row.ensures)
