-- `posting::width_of` meets its contract. Assumes nothing.
use mathlib.Core.Path.{refl, sym, ◌∙◌}
use borrow.Author.Tests.{eq-eqb, ne_eqb}
use Rattle.posting.specs.NewLaws.{width-new}
use Rattle.posting.proofs.width_of.Goals as goal

pub returns-then-kind-eq3 : goal.returns-then-kind-eq3
returns-then-kind-eq3 c =
    sym (width-new c.args.kind ∙ rw (eq-eqb c.args.kind 3 c.if-kind-eq3.true) refl)

pub returns-else-kind-eq3 : goal.returns-else-kind-eq3
returns-else-kind-eq3 c =
    sym (width-new c.args.kind ∙ rw (ne_eqb c.args.kind 3 c.if-kind-eq3.false) refl)
