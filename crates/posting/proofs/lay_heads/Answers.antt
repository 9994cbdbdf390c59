-- `posting::lay_heads` meets its contract. The loop's invariant: the heads from this row on, laid now, are all of them laid at first. Assumes nothing.
use Prim.Native.Nat.{ℕ, ◌+◌}
use mathlib.Core.Path.{sym, subst}
use native.Mathlib.Omega.{arith}
use Rattle.posting.specs.NewLaws.{widths-most, Underway, starts, goes_on, all_laid}
use Rattle.posting.proofs.lay_heads.Goals as goal

pub loop-row-init : goal.loop-row-init
loop-row-init c =
    let a = c.args in
    starts a.models.now a.rows a.at a.state.now

pub overflow_add-begin-in-loop-row : goal.overflow_add-begin-in-loop-row
overflow_add-begin-in-loop-row c =
    let a = c.args in
    let l = c.loop-row in
    let w = widths-most a.models.now 0 a.rows in
    let next = goes_on a.models.now a.rows a.at a.state.now l.row l.begin l.state c.lay_head.new.state l.invariant (omega arith) c.requires.2 c.lay_head.ensures in
    let ends = next.ends in
    omega (arith, c.width_of-begin.ensures, c.requires.0)

pub loop-row-preserved : goal.loop-row-preserved
loop-row-preserved c =
    let a = c.args in
    let l = c.loop-row in
    subst (λ (width : ℕ). Underway a.models.now a.rows a.at a.state.now (l.row + 1) (l.begin + width) c.lay_head.new.state) (sym c.width_of-begin.ensures)
    (goes_on a.models.now a.rows a.at a.state.now l.row l.begin l.state c.lay_head.new.state l.invariant (omega arith) c.requires.2 c.lay_head.ensures)

pub returns : goal.returns
returns c =
    let a = c.args in
    let l = c.loop-row in
    let all = all_laid a.models.now a.rows a.at a.state.now l.row l.begin l.state l.invariant (omega arith) in record { ends = all.0; lays = all.1 }
