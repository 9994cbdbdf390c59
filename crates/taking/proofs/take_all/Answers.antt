-- `taking::take_all` meets its contract. The loop: what is left of the models without parent, from the words as they stand, is the whole from the words at first; the messages' own words stay. Assumes nothing.
use Rattle.std.proofs.lemmas.Result.{err_from_is_err_and}
use Rattle.std.specs.Prelude.{Result, ⊤}
use Rattle.rules.specs.declared.Refusal.{Refusal}
use mathlib.Core.Path.{sym, subst, ◌∙◌}
use mathlib.Core.List.{List}
use native.Mathlib.Omega.{arith}
use lib.ListN.{length}
use Rattle.rules.specs.declared.Message.{Message}
use Rattle.lookup.specs.Inside.{table_in}
use Rattle.lookup.specs.InsideLaws.{sizes-in}
use Rattle.views.specs.World.{Does}
use Rattle.views.specs.Messages.{messages_in}
use Rattle.sweeps.specs.Loops.{going_start, going_on, going-stops, going-none}
use Rattle.sweeps.specs.Skips.{stop-bounds}
use Rattle.taking.specs.Taking.{takes_all, is_addressed}
use Rattle.taking.specs.TakingLaws.{messages-stay, active-stays, has_no_parent, taker-bounds, taker-deep, pass-rows}
use Rattle.taking.proofs.take_all.Goals as goal

pub loop-row-init : goal.loop-row-init
loop-row-init c =
    let a = c.args in
    (omega arith, going_start (table_in a.state.now) (takes_all (table_in a.state.now) a.services.now a.clock (messages_in a.active a.count a.mem.now)) (has_no_parent (table_in a.state.now)) a.mem.now (length (table_in a.state.now).rows) c.requires.0.ready)

pub returns-clause-does : goal.returns-clause-does
returns-clause-does c =
    let a = c.args in
    let t = table_in a.state.now in
    let visits = takes_all t a.services.now a.clock (messages_in a.active a.count a.mem.now) in
    let rows = length t.rows in
    let before = c.loop-row.invariant.1 in
    let here = c.next_addressed.result in
    let g = pass-rows t a.services.now a.clock a.active a.count a.mem.now c.loop-row.mem c.requires.1 c.loop-row.from here c.next_addressed.ensures c.loop-row.invariant.0 before in
    going-none t visits (has_no_parent t) a.mem.now rows here c.loop-row.mem g (sym c.next_parentless.ensures ∙ c.in_default.is)

pub take_for-requires : goal.take_for-requires
take_for-requires c =
    let a = c.args in
    let t = table_in a.state.now in
    let before = c.loop-row.invariant.1 in
    let here = c.next_addressed.result in
    let g = pass-rows t a.services.now a.clock a.active a.count a.mem.now c.loop-row.mem c.requires.1 c.loop-row.from here c.next_addressed.ensures c.loop-row.invariant.0 before in
    let found = sym c.next_parentless.ensures ∙ c.in-Some.is in
    let row = c.in-Some.row in
    let bounds = taker-bounds a.state.now c.requires.0.inside here row found in (
      record { scene = record { inside = c.requires.0.inside; ready = g.ready; time = c.requires.0.time }; in_table = bounds.1 },
      taker-deep a.state.now c.requires.0.inside here row found,
      active-stays t a.mem.now c.loop-row.mem a.active a.count g.frame (record { past = c.requires.1; room = c.requires.2; few = c.requires.3; fit = c.requires.4 }),
    )

pub returns-in_err-take_for-clause-does : goal.returns-in_err-take_for-clause-does
returns-in_err-take_for-clause-does c =
    let refused = err_from_is_err_and c.from_residual.result c.from_residual.ensures.1 in
    let a = c.args in
    let t = table_in a.state.now in
    let visits = takes_all t a.services.now a.clock (messages_in a.active a.count a.mem.now) in
    let rows = length t.rows in
    let before = c.loop-row.invariant.1 in
    let here = c.next_addressed.result in
    let g = pass-rows t a.services.now a.clock a.active a.count a.mem.now c.loop-row.mem c.requires.1 c.loop-row.from here c.next_addressed.ensures c.loop-row.invariant.0 before in
    let found = sym c.next_parentless.ensures ∙ c.in-Some.is in
    let row = c.in-Some.row in
    let after = c.take_for.new.mem in
    let one = subst (λ (ms : List Message). Does c.take_for.result (takes_all t a.services.now a.clock ms row) t c.loop-row.mem after) (messages-stay t a.active a.mem.now c.loop-row.mem c.requires.1 g.frame a.count) c.take_for.ensures.does in
    let d = subst (λ (r : Result ⊤ Refusal). Does r (visits row) t c.loop-row.mem after) c.in_err-take_for.was one in
    rw (refused.1, refused.2) (going-stops t visits (has_no_parent t) a.mem.now rows here c.loop-row.mem g row c.in_err-take_for.field-0.0 after found d)

pub overflow_add-from : goal.overflow_add-from
overflow_add-from c =
    let a = c.args in
    let here = c.next_addressed.result in
    let found = sym c.next_parentless.ensures ∙ c.in-Some.is in
    let row = c.in-Some.row in
    let bounds = taker-bounds a.state.now c.requires.0.inside here row found in
    let few = sizes-in a.state.now c.requires.0.inside in
    omega (arith, bounds.1, few.0)

pub loop-row-smaller : goal.loop-row-smaller
loop-row-smaller c =
    let a = c.args in
    let t = table_in a.state.now in
    let rows = length t.rows in
    let here = c.next_addressed.result in
    let stop = stop-bounds (is_addressed t a.active a.count c.loop-row.mem) c.loop-row.from rows c.loop-row.invariant.0 in
    let found = sym c.next_parentless.ensures ∙ c.in-Some.is in
    let row = c.in-Some.row in
    let bounds = taker-bounds a.state.now c.requires.0.inside here row found in
    omega (arith, bounds.0, bounds.1, stop.0, c.next_addressed.ensures, c.loop-row.invariant.0)

pub loop-row-preserved : goal.loop-row-preserved
loop-row-preserved c =
    let a = c.args in
    let t = table_in a.state.now in
    let visits = takes_all t a.services.now a.clock (messages_in a.active a.count a.mem.now) in
    let rows = length t.rows in
    let before = c.loop-row.invariant.1 in
    let here = c.next_addressed.result in
    let g = pass-rows t a.services.now a.clock a.active a.count a.mem.now c.loop-row.mem c.requires.1 c.loop-row.from here c.next_addressed.ensures c.loop-row.invariant.0 before in
    let found = sym c.next_parentless.ensures ∙ c.in-Some.is in
    let row = c.in-Some.row in
    let after = c.take_for.new.mem in
    let one = subst (λ (ms : List Message). Does c.take_for.result (takes_all t a.services.now a.clock ms row) t c.loop-row.mem after) (messages-stay t a.active a.mem.now c.loop-row.mem c.requires.1 g.frame a.count) c.take_for.ensures.does in
    let d = subst (λ (r : Result ⊤ Refusal). Does r (visits row) t c.loop-row.mem after) c.in_ok-take_for.was one in
    let bounds = taker-bounds a.state.now c.requires.0.inside here row found in
    (omega (arith, bounds.1), going_on t visits (has_no_parent t) a.mem.now rows here c.loop-row.mem g row after found d c.take_for.ensures.frame)
