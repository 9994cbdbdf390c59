-- `taking::take_one` meets its contract: a message for another is left, and one for this row is its event, whose port and content are narrow enough. Assumes nothing.
use mathlib.Core.Path.{sym, ◌∙◌}
use Rattle.lookup.specs.Inside.{table_in}
use Rattle.views.specs.Messages.{message_in}
use Rattle.taking.specs.TakingLaws.{not-its, its}
use Rattle.taking.proofs.take_one.Goals as goal

pub returns-then-mem-at-clause-does : goal.returns-then-mem-at-clause-does
returns-then-mem-at-clause-does c =
    let a = c.args in
    not-its (table_in a.state.now) a.services.now a.clock a.row (message_in a.active a.mem.now a.k) a.mem.now c.requires.0.scene.ready (λ e. c.if-mem-at.true (e ∙ sym c.id_of.ensures))

pub returns-clause-does : goal.returns-clause-does
returns-clause-does c =
    let a = c.args in
    its (table_in a.state.now) a.services.now a.clock a.row (message_in a.active a.mem.now a.k) a.mem.now c.external.new.mem c.external.result (c.if-mem-at.false ∙ c.id_of.ensures) c.external.ensures.does
