-- `unparking::deliver` meets its contract. The loop: what is left of the messages, from the words as they stand, is the whole from the words at first. Assumes nothing.
use Rattle.std.proofs.lemmas.Result.{err_from_is_err_and}
use native.Mathlib.Omega.{arith}
use Rattle.unparking.proofs.Delivering.{deliver-start, all_there, deliver-none, place-bounds, deliver-on, deliver-stops}
use Rattle.unparking.proofs.deliver.Goals as goal

pub loop-place-init : goal.loop-place-init
loop-place-init c =
    let a = c.args in
    let pre = c.requires in
    deliver-start a.state.now a.services.now a.depth a.clock a.row a.component c.id_of-id.result c.begin_at-begin.result c.held_at-held.result a.mem.now
    (record { event = pre.0; is = pre.1; below = pre.2; deep = pre.3 }) c.id_of-id.ensures c.begin_at-begin.ensures c.held_at-held.ensures

pub next_for-requires : goal.next_for-requires
next_for-requires c = (all_there c.loop-place.invariant).0

pub returns-clause-does : goal.returns-clause-does
returns-clause-does c = (deliver-none c.loop-place.invariant c.next_for.ensures c.in_default.is).0

pub overflow_add-word : goal.overflow_add-word
overflow_add-word c =
    omega (arith, place-bounds c.loop-place.invariant c.next_for.ensures c.in-Some.is)

pub offset_bounds-mem-begin : goal.offset_bounds-mem-begin
offset_bounds-mem-begin c =
    omega (arith, place-bounds c.loop-place.invariant c.next_for.ensures c.in-Some.is)

pub bounds-mem-begin : goal.bounds-mem-begin
bounds-mem-begin c =
    omega (arith, place-bounds c.loop-place.invariant c.next_for.ensures c.in-Some.is)

pub returns-in_err-hand_over-clause-does : goal.returns-in_err-hand_over-clause-does
returns-in_err-hand_over-clause-does c =
    let refused = err_from_is_err_and c.from_residual.result c.from_residual.ensures.1 in
    rw (refused.1, refused.2) (deliver-stops c.loop-place.invariant c.next_for.ensures c.in-Some.is c.hand_over.new.mem c.hand_over.result c.hand_over.ensures.does c.hand_over.ensures.frame c.in_err-hand_over.was).0

pub overflow_add-from : goal.overflow_add-from
overflow_add-from c =
    omega (arith, place-bounds c.loop-place.invariant c.next_for.ensures c.in-Some.is)

pub loop-place-smaller : goal.loop-place-smaller
loop-place-smaller c =
    omega (arith, place-bounds c.loop-place.invariant c.next_for.ensures c.in-Some.is)

pub loop-place-preserved : goal.loop-place-preserved
loop-place-preserved c =
    deliver-on c.loop-place.invariant c.next_for.ensures c.in-Some.is c.hand_over.new.mem c.hand_over.result c.hand_over.ensures.does c.hand_over.ensures.frame c.in_ok-hand_over.was
