-- `handing::park_all` meets its contract. The loop: what is left to park, from the memory reached, is what was to be parked. Assumes nothing.
use Rattle.std.proofs.lemmas.Result.{err_from_is_err_and}
use Prim.Native.Nat.{ℕ}
use native.Mathlib.Omega.{arith}
use lib.ListN.{length}
use Rattle.rules.specs.Base.{done}
use Rattle.selection.specs.Selected.{sweep-bounds}
use Rattle.views.proofs.Frames.{frame_then}
use Rattle.lookup.specs.Inside.{table_in}
use Rattle.lookup.specs.InsideLaws.{sizes-in}
use Rattle.sweeps.specs.Loops.{going_start, going_on, going-stops, going-none}
use Rattle.handing.proofs.Parking.{is_along, found-along, parks-moves, parks-stops, target_row, parks-frame, parks-at}
use Rattle.handing.proofs.park_all.Goals as goal

pub loop-coupling-init : goal.loop-coupling-init
loop-coupling-init c = going_start _ _ _ _ _ c.requires.1

pub returns-clause-parks : goal.returns-clause-parks
returns-clause-parks c =
    let loop = c.loop-coupling in
    let a = c.args in
    let p = c.requires in
    let s = a.state.now in
    let found = found-along s a.row a.source a.port a.content p.0 _ c.id_of-owner.ensures loop.from _ _ c.next_internal.ensures c.in_default.is in
    parks-moves s a.row a.source a.port a.content p.0 p.2 p.3 a.mem.now p.1 loop.mem (going-none _ _ _ _ _ loop.from loop.mem loop.invariant found)

pub park-requires : goal.park-requires
park-requires c =
    let coupling-target = c.coupling_target-to in
    let loop = c.loop-coupling in
    let a = c.args in
    let p = c.requires in
    let s = a.state.now in
    let j = c.in-Some.coupling in
    let found = found-along s a.row a.source a.port a.content p.0 _ c.id_of-owner.ensures loop.from _ _ c.next_internal.ensures c.in-Some.is in
    let bounds = sweep-bounds {S = ℕ} (λ k s. done s) (is_along s a.row a.source a.port a.content) loop.from (length (table_in s).couplings) 0 j found in
    target_row s a.row a.source a.port a.content p.0 p.2 p.3 loop.mem loop.invariant.ready j bounds.1 (omega (arith, c.ranges.content)) _ _ coupling-target.ensures.0 coupling-target.ensures.1

pub returns-in_err-park : goal.returns-in_err-park
returns-in_err-park c =
    let refused = err_from_is_err_and c.from_residual.result c.from_residual.ensures.1 in
    let park = c.park in
    let loop = c.loop-coupling in
    let a = c.args in
    let p = c.requires in
    let s = a.state.now in
    let j = c.in-Some.coupling in
    let found = found-along s a.row a.source a.port a.content p.0 _ c.id_of-owner.ensures loop.from _ _ c.next_internal.ensures c.in-Some.is in
    let bounds = sweep-bounds {S = ℕ} (λ k s. done s) (is_along s a.row a.source a.port a.content) loop.from (length (table_in s).couplings) 0 j found in
    let to = c.coupling_target-to.ensures in
    let after = park.new.mem in
    let frame = parks-frame s a.row a.source a.port a.content p.0 p.2 p.3 loop.mem loop.invariant.ready j bounds.1 (omega (arith, c.ranges.content)) _ _ to.0 to.1 after park.ensures.owns park.ensures.place in
    let stops = parks-at s a.row a.source a.port a.content p.0 p.2 p.3 loop.mem loop.invariant.ready j bounds.1 (omega (arith, c.ranges.content)) _ _ to.0 to.1 after park.ensures.owns park.ensures.place _ park.ensures.parks _ c.in_err-park.was in
    record { parks = rw (refused.1, refused.2) (parks-stops s a.row a.source a.port a.content p.0 p.2 p.3 a.mem.now p.1 _ (going-stops _ _ _ _ _ loop.from loop.mem loop.invariant j _ after found stops)); frame = frame_then _ 0 0 a.mem.now loop.mem after loop.invariant.frame frame }

pub overflow_add-from : goal.overflow_add-from
overflow_add-from c =
    let loop = c.loop-coupling in
    let a = c.args in
    let s = a.state.now in
    let found = found-along s a.row a.source a.port a.content c.requires.0 _ c.id_of-owner.ensures loop.from _ _ c.next_internal.ensures c.in-Some.is in
    let bounds = sweep-bounds {S = ℕ} (λ k s. done s) (is_along s a.row a.source a.port a.content) loop.from (length (table_in s).couplings) 0 c.in-Some.coupling found in
    omega (arith, bounds.1, (sizes-in s c.requires.0).2)

pub loop-coupling-smaller : goal.loop-coupling-smaller
loop-coupling-smaller c =
    let loop = c.loop-coupling in
    let a = c.args in
    let s = a.state.now in
    let found = found-along s a.row a.source a.port a.content c.requires.0 _ c.id_of-owner.ensures loop.from _ _ c.next_internal.ensures c.in-Some.is in
    let bounds = sweep-bounds {S = ℕ} (λ k s. done s) (is_along s a.row a.source a.port a.content) loop.from (length (table_in s).couplings) 0 c.in-Some.coupling found in
    omega (arith, bounds.0, bounds.1)

pub loop-coupling-preserved : goal.loop-coupling-preserved
loop-coupling-preserved c =
    let park = c.park in
    let loop = c.loop-coupling in
    let a = c.args in
    let p = c.requires in
    let s = a.state.now in
    let j = c.in-Some.coupling in
    let found = found-along s a.row a.source a.port a.content p.0 _ c.id_of-owner.ensures loop.from _ _ c.next_internal.ensures c.in-Some.is in
    let bounds = sweep-bounds {S = ℕ} (λ k s. done s) (is_along s a.row a.source a.port a.content) loop.from (length (table_in s).couplings) 0 j found in
    let to = c.coupling_target-to.ensures in
    let after = park.new.mem in
    let frame = parks-frame s a.row a.source a.port a.content p.0 p.2 p.3 loop.mem loop.invariant.ready j bounds.1 (omega (arith, c.ranges.content)) _ _ to.0 to.1 after park.ensures.owns park.ensures.place in
    let moves = parks-at s a.row a.source a.port a.content p.0 p.2 p.3 loop.mem loop.invariant.ready j bounds.1 (omega (arith, c.ranges.content)) _ _ to.0 to.1 after park.ensures.owns park.ensures.place _ park.ensures.parks _ c.in_ok-park.was in
    going_on _ _ _ _ _ loop.from loop.mem loop.invariant j after found moves frame
