-- `holding::message_fits` meets its contract: each way out is one of the tests. Assumes nothing.
use mathlib.Core.Path.{sym, subst, ◌∙◌}
use native.Mathlib.Omega.{arith}
use lib.Dec.{T}
use Rattle.rules.specs.Decides.{is_false, message-decides}
use Rattle.views.specs.Messages.{message_in}
use Rattle.holding.specs.WholeLaws.{message-rest}
use Rattle.holding.proofs.message_fits.Goals as goal

pub returns-then-mem-start-gt65535 : goal.returns-then-mem-start-gt65535
returns-then-mem-start-gt65535 c =
    let a = c.args in
    sym (is_false (message-decides (message_in a.at a.mem.now a.k)) (λ h. let low = h.0 in omega (arith, c.if-mem-start-gt65535.true)))

pub returns-then-mem-start-gt65535-2 : goal.returns-then-mem-start-gt65535-2
returns-then-mem-start-gt65535-2 c =
    let a = c.args in
    sym (is_false (message-decides (message_in a.at a.mem.now a.k)) (λ h. let low = h.1.0 in omega (arith, c.if-mem-start-gt65535-2.true)))

pub returns-then-mem-start-gt65535-3 : goal.returns-then-mem-start-gt65535-3
returns-then-mem-start-gt65535-3 c =
    let a = c.args in
    sym (is_false (message-decides (message_in a.at a.mem.now a.k)) (λ h. let low = h.1.1.0 in omega (arith, c.if-mem-start-gt65535-3.true)))

pub returns-then-mem-start-gt65535-4 : goal.returns-then-mem-start-gt65535-4
returns-then-mem-start-gt65535-4 c =
    let a = c.args in
    sym (is_false (message-decides (message_in a.at a.mem.now a.k)) (λ h. let low = h.1.1.1.0 in omega (arith, c.if-mem-start-gt65535-4.true)))

pub returns-then-not-is_time : goal.returns-then-not-is_time
returns-then-not-is_time c =
    let a = c.args in
    sym (is_false (message-decides (message_in a.at a.mem.now a.k)) (λ h. subst T (sym c.is_time.ensures ∙ c.if-not-is_time.true) h.1.1.1.1.0))

pub returns : goal.returns
returns c =
    let a = c.args in
    message-rest (message_in a.at a.mem.now a.k) c.if-mem-start-gt65535.false c.if-mem-start-gt65535-2.false c.if-mem-start-gt65535-3.false c.if-mem-start-gt65535-4.false (sym c.is_time.ensures ∙ c.if-not-is_time.false)
