-- `taking::take_for` meets its contract. The loop: what is left of the messages, from the words as they stand, is the whole from the words at first; the messages' own words stay. Assumes nothing.
use Rattle.std.proofs.lemmas.Result.{err_from_is_err_and}
use Rattle.std.specs.Prelude.{Err, Ok, Result, ⊤}
use Rattle.rules.specs.declared.Refusal.{Refusal}
use Prim.Native.Nat.{ℕ, ◌+◌}
use mathlib.Core.Path.{refl, sym, subst}
use native.Mathlib.Omega.{arith}
use Rattle.rules.specs.declared.Message.{Message}
use Rattle.words.specs.SearchLaws.{search-hit}
use Rattle.lookup.specs.Inside.{table_in}
use Rattle.views.specs.World.{Does}
use Rattle.sweeps.specs.Loops.{going_start, going_on, going-stops, going_end}
use Rattle.sweeps.specs.Skips.{stop-bounds}
use Rattle.taking.specs.Taking.{takes_one, is_for}
use Rattle.taking.specs.TakingLaws.{message-stays, active-stays, one-fits, always, takes_at, one_by_one, Along, pass-others}
use Rattle.taking.proofs.take_for.Goals as goal

pub loop-k-init : goal.loop-k-init
loop-k-init c =
    let a = c.args in
    let t = table_in a.state.now in
    subst (λ (k : ℕ). Along t a.services.now a.clock a.row a.active a.count a.mem.now a.mem.now k) (sym c.next_for-k.ensures)
    (pass-others t a.services.now a.clock a.row a.active a.count a.mem.now a.mem.now c.requires.2.past c.id_of-id.result 0 c.id_of-id.ensures (omega arith)
    (going_start t (takes_at t a.services.now a.clock a.row a.active a.mem.now) always a.mem.now a.count c.requires.0.scene.ready))

pub take_one-requires : goal.take_one-requires
take_one-requires c =
    let a = c.args in
    let t = table_in a.state.now in
    let g = c.loop-k.invariant in
    let here = active-stays t a.mem.now c.loop-k.mem a.active a.count g.frame c.requires.2 in (
      record { scene = record { inside = c.requires.0.scene.inside; ready = g.ready; time = c.requires.0.scene.time }; in_table = c.requires.0.in_table },
      c.requires.1,
      omega (arith, here.few, c.loop-k-test.true),
      here.room,
      one-fits t c.loop-k.mem a.active a.count c.loop-k.k here c.loop-k-test.true,
    )

pub returns-in_err-take_one-clause-does : goal.returns-in_err-take_one-clause-does
returns-in_err-take_one-clause-does c =
    let refused = err_from_is_err_and c.from_residual.result c.from_residual.ensures.1 in
    let a = c.args in
    let t = table_in a.state.now in
    let g = c.loop-k.invariant in
    let after = c.take_one.new.mem in
    let one = subst (λ (m : Message). Does c.take_one.result (takes_one t a.services.now a.clock a.row m) t c.loop-k.mem after) (message-stays t a.active a.mem.now c.loop-k.mem c.requires.2.past g.frame c.loop-k.k) c.take_one.ensures.does in
    let d = subst (λ (r : Result ⊤ Refusal). Does r (takes_at t a.services.now a.clock a.row a.active a.mem.now c.loop-k.k) t c.loop-k.mem after) c.in_err-take_one.was one in
    let s = going-stops t (takes_at t a.services.now a.clock a.row a.active a.mem.now) always a.mem.now a.count c.loop-k.k c.loop-k.mem g c.loop-k.k c.in_err-take_one.field-0.0 after (search-hit always c.loop-k.k a.count c.loop-k-test.true refl) d in
    rw (refused.1, refused.2) (one_by_one t a.services.now a.clock a.row a.active a.count a.mem.now after (Err c.in_err-take_one.field-0.0) s)

pub loop-k-smaller : goal.loop-k-smaller
loop-k-smaller c =
    let a = c.args in
    let b = stop-bounds (is_for a.active c.take_one.new.mem c.id_of-id.result) (c.loop-k.k + 1) a.count (omega (arith, c.loop-k-test.true)) in
    omega (arith, b.0, b.1, c.next_for-k-in-loop-k.ensures, c.loop-k-test.true)

pub loop-k-preserved : goal.loop-k-preserved
loop-k-preserved c =
    let a = c.args in
    let t = table_in a.state.now in
    let g = c.loop-k.invariant in
    let after = c.take_one.new.mem in
    let one = subst (λ (m : Message). Does c.take_one.result (takes_one t a.services.now a.clock a.row m) t c.loop-k.mem after) (message-stays t a.active a.mem.now c.loop-k.mem c.requires.2.past g.frame c.loop-k.k) c.take_one.ensures.does in
    let d = subst (λ (r : Result ⊤ Refusal). Does r (takes_at t a.services.now a.clock a.row a.active a.mem.now c.loop-k.k) t c.loop-k.mem after) c.in_ok-take_one.was one in
    subst (λ (k : ℕ). Along t a.services.now a.clock a.row a.active a.count a.mem.now after k) (sym c.next_for-k-in-loop-k.ensures)
    (pass-others t a.services.now a.clock a.row a.active a.count a.mem.now after c.requires.2.past c.id_of-id.result (c.loop-k.k + 1) c.id_of-id.ensures (omega (arith, c.loop-k-test.true))
    (going_on t (takes_at t a.services.now a.clock a.row a.active a.mem.now) always a.mem.now a.count c.loop-k.k c.loop-k.mem g c.loop-k.k after (search-hit always c.loop-k.k a.count c.loop-k-test.true refl) d c.take_one.ensures.frame))

pub returns-clause-does : goal.returns-clause-does
returns-clause-does c =
    let a = c.args in
    let t = table_in a.state.now in
    let g = c.loop-k.invariant in
    let m = going_end t (takes_at t a.services.now a.clock a.row a.active a.mem.now) always a.mem.now a.count c.loop-k.k c.loop-k.mem g c.loop-k-test.false in
    one_by_one t a.services.now a.clock a.row a.active a.count a.mem.now c.loop-k.mem (Ok tt) m
