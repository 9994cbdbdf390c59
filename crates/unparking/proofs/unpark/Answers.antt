-- `unparking::unpark` meets its contract. The loop: what is left of the components, from the words as they stand, is the whole from the words at first. Assumes nothing.
use Rattle.std.proofs.lemmas.Result.{err_from_is_err_and}
use mathlib.Core.Path.{refl}
use native.Mathlib.Omega.{arith}
use lib.ListN.{length}
use Rattle.lookup.specs.Inside.{table_in}
use Rattle.unparking.proofs.Unparking.{unpark-start, unpark-none, component-bounds, may-deliver, unpark-on, unpark-stops}
use Rattle.unparking.proofs.unpark.Goals as goal

pub loop-component-init : goal.loop-component-init
loop-component-init c =
    let a = c.args in
    let pre = c.requires in
    unpark-start a.state.now a.services.now a.depth a.clock a.row c.id_of-owner.result (length (table_in a.state.now).rows) a.mem.now
    (record { event = pre.0; is = pre.1; deep = pre.2 }) c.id_of-owner.ensures refl

pub returns-clause-does : goal.returns-clause-does
returns-clause-does c = (unpark-none c.loop-component.invariant c.next_component.ensures c.in_default.is).0

pub deliver-requires : goal.deliver-requires
deliver-requires c =
    may-deliver c.loop-component.invariant c.next_component.ensures c.in-Some.is

pub returns-in_err-deliver-clause-does : goal.returns-in_err-deliver-clause-does
returns-in_err-deliver-clause-does c =
    let refused = err_from_is_err_and c.from_residual.result c.from_residual.ensures.1 in
    rw (refused.1, refused.2) (unpark-stops c.loop-component.invariant c.next_component.ensures c.in-Some.is c.deliver.new.mem c.deliver.result c.deliver.ensures.does c.deliver.ensures.frame c.in_err-deliver.was).0

pub overflow_add-from : goal.overflow_add-from
overflow_add-from c =
    omega (arith, component-bounds c.loop-component.invariant c.next_component.ensures c.in-Some.is)

pub loop-component-smaller : goal.loop-component-smaller
loop-component-smaller c =
    omega (arith, component-bounds c.loop-component.invariant c.next_component.ensures c.in-Some.is)

pub loop-component-preserved : goal.loop-component-preserved
loop-component-preserved c =
    unpark-on c.loop-component.invariant c.next_component.ensures c.in-Some.is c.deliver.new.mem c.deliver.result c.deliver.ensures.does c.deliver.ensures.frame c.in_ok-deliver.was
