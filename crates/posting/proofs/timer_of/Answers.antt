-- `posting::timer_of` meets its contract. Assumes nothing.
use mathlib.Core.Path.{refl, sym, ◌∙◌}
use borrow.Author.Tests.{eq-eqb, ne_eqb}
use Rattle.posting.specs.NewLaws.{timer-new}
use Rattle.posting.proofs.timer_of.Goals as goal

pub returns-then-kind-eq4 : goal.returns-then-kind-eq4
returns-then-kind-eq4 c =
    sym (timer-new c.args.kind ∙ rw (eq-eqb c.args.kind 4 c.if-kind-eq4.true) refl)

pub returns-else-kind-eq4 : goal.returns-else-kind-eq4
returns-else-kind-eq4 c =
    sym (timer-new c.args.kind ∙ rw (ne_eqb c.args.kind 4 c.if-kind-eq4.false) refl)
