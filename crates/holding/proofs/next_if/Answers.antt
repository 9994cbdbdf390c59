-- `holding::next_if` meets its contract. Assumes nothing.
use mathlib.Core.Path.{sym, ap}
use mathlib.Core.Bool.{Bool}
use Rattle.holding.specs.Fitting.{next_if}
use Rattle.holding.proofs.next_if.Goals as goal

pub returns-then-fits : goal.returns-then-fits
returns-then-fits c = let a = c.args in sym (ap (λ (b : Bool). next_if b a.end) c.if-fits.true)

pub returns : goal.returns
returns c = let a = c.args in sym (ap (λ (b : Bool). next_if b a.end) c.if-fits.false)
