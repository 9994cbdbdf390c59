-- `hints::end_of` meets its contract: `end-at` says what is told of the row that is found, by whether its kind has the port. Assumes nothing.
use Rattle.std.specs.Prelude.{refl, false}
use mathlib.Core.Path.{sym, ap, ◌∙◌}
use Rattle.hints.specs.Naming.{of_port}
use Rattle.hints.specs.NamingLaws.{end-at}
use Rattle.hints.proofs.end_of.Goals as goal

pub returns-then-has_port : goal.returns-then-has_port
returns-then-has_port c =
    let a = c.args in
    ap of_port (sym c.if-has_port.true)
    ∙ end-at a.wanted a.models.now a.couplings.now a.id a.port a.side _ (sym c.row_named.ensures ∙ c.in-Some.is) (sym c.in-Some-kind_at.is ∙ c.kind_at.ensures) c.has_port.ensures

pub returns-else-has_port : goal.returns-else-has_port
returns-else-has_port c =
    let a = c.args in
    ap of_port (sym c.if-has_port.false)
    ∙ end-at a.wanted a.models.now a.couplings.now a.id a.port a.side _ (sym c.row_named.ensures ∙ c.in-Some.is) (sym c.in-Some-kind_at.is ∙ c.kind_at.ensures) c.has_port.ensures

pub returns-in-None : goal.returns-in-None
returns-in-None c =
    let a = c.args in
    end-at a.wanted a.models.now a.couplings.now a.id a.port a.side _ (sym c.row_named.ensures ∙ c.in-Some.is) (sym c.in-None.is ∙ c.kind_at.ensures) {b = false} refl
