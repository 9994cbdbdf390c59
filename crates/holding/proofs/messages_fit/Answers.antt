-- `holding::messages_fit` meets its contract. The invariant: the messages from k on fit exactly if all do. Assumes nothing.
use mathlib.Core.Path.{sym, ◌∙◌}
use Rattle.marks.specs.SweepLaws.{begun}
use Rattle.holding.specs.WholeLaws.{messages_from, messages-over, messages-stop, messages-on}
use Rattle.holding.proofs.messages_fit.Goals as goal

pub loop-k-init : goal.loop-k-init
loop-k-init c =
    let a = c.args in begun (messages_from a.at a.mem.now 0) a.count

pub returns-then-not-message_fits : goal.returns-then-not-message_fits
returns-then-not-message_fits c =
    let a = c.args in
    sym (messages-stop a.at a.mem.now c.loop-k.k a.count c.loop-k-test.true (sym c.message_fits.ensures ∙ c.if-not-message_fits.true)) ∙ c.loop-k.invariant

pub loop-k-preserved : goal.loop-k-preserved
loop-k-preserved c =
    let a = c.args in sym (messages-on a.at a.mem.now c.loop-k.k a.count c.loop-k-test.true (sym c.message_fits.ensures ∙ c.if-not-message_fits.false)) ∙ c.loop-k.invariant

pub returns : goal.returns
returns c =
    let a = c.args in sym (messages-over a.at a.mem.now c.loop-k.k a.count c.loop-k-test.false) ∙ c.loop-k.invariant
