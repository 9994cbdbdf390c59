-- `copying::copy_row` meets its contract: what is not copied is alike. Assumes nothing.
use mathlib.Core.Path.{◌∙◌}
use Rattle.copying.specs.SparingLaws.{row-none, columns-on}
use Rattle.copying.proofs.copy_row.Goals as goal

pub returns-then-held-eq0 : goal.returns-then-held-eq0
returns-then-held-eq0 c =
    let a = c.args in
    row-none a.begin a.next a.held a.src.now a.dst.now c.requires c.if-held-eq0.true

pub loop-at-preserved : goal.loop-at-preserved
loop-at-preserved c =
    let a = c.args in
    let l = c.loop-at in
    (c.copy_between-in-loop-at.auto.dst ∙ l.invariant.0, columns-on a.begin a.next a.held a.src.now a.dst.now c.requires l.dst l.at l.invariant.1 c.loop-at-test.true c.copy_between-in-loop-at.new.dst c.copy_between-in-loop-at.ensures)
