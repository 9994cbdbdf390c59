use lib.Ieee.{of_bits}
use Rattle.stopwatch.specs.Watching.{external_in}
use borrow.Author.Tests.{eq-eqb, ne_eqb}
use Rattle.stopwatch.proofs.StopwatchState.external_rule.Goals as goal

pub returns-then-port-row : goal.returns-then-port-row
unfolding external_in
returns-then-port-row c = rw (eq-eqb _ _ c.if-port-row.true) c.mark.ensures

pub returns-then-port-row-2 : goal.returns-then-port-row-2
unfolding external_in
returns-then-port-row-2 c = rw (ne_eqb _ _ c.if-port-row.false, eq-eqb _ _ c.if-port-row-2.true) c.mark-then-port-row-2.ensures

pub returns-then-port-row-3 : goal.returns-then-port-row-3
unfolding external_in of_bits
returns-then-port-row-3 c = rw (ne_eqb _ _ c.if-port-row.false, ne_eqb _ _ c.if-port-row-2.false, eq-eqb _ _ c.if-port-row-3.true)

pub returns : goal.returns
unfolding external_in
returns c = rw (ne_eqb _ _ c.if-port-row.false, ne_eqb _ _ c.if-port-row-2.false, ne_eqb _ _ c.if-port-row-3.false, c.refused.ensures)
