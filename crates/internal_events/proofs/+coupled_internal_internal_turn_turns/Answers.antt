-- `internal_events::internal`, `coupled_internal`, `turns` and `turn` meet their contracts. The loop: what is left of the turns, from the words and the messages as they stand, is the whole from the words at first. Assumes nothing.
use Rattle.std.proofs.lemmas.Result.{err_from_is_err_and}
use Rattle.std.specs.Prelude.{Err, Ok}
use mathlib.Core.Path.{◌≡◌, refl, sym, ap, subst, ◌∙◌}
use mathlib.Core.Logic.{inr}
use native.Mathlib.Omega.{arith}
use lib.ListN.{length}
use lib.Dec.{T}
use Rattle.rules.specs.Base.{done}
use Rattle.rules.specs.Sizes.{most_out}
use Rattle.rules.specs.Table.{id_at, coupled}
use Rattle.rules.specs.Step as Step
use Rattle.rules.specs.Depth.{Deep}
use Rattle.selection.specs.Selected.{sweep-bounds}
use Rattle.memory.specs.Words.{begin_in}
use Rattle.memory.specs.View.{outs_in}
use Rattle.lookup.specs.Inside.{table_in}
use Rattle.lookup.specs.InsideLaws.{sizes-in, in-components}
use Rattle.views.specs.World.{Gives}
use Rattle.views.proofs.Frames.{frame_then, frame-none, frame-to}
use Rattle.views.proofs.Lifts.{row-kind}
use Rattle.sweeps.specs.Adding.{adding-start, adding-on, adding-stops, adding-none}
use Rattle.model_events.specs.OfKind.{frame-kind}
use Rattle.model_events.specs.DueHere.{is_one, components-all}
use Rattle.internal_events.specs.Internal.{no-turn, turn-goes, outs-kept, empty-world, empty-ready, unpark-stops, coupled-gives, own_at, emptied-at, hands-all}
use Prim.Native.Nat.{ℕ, suc, ◌+◌, ◌-◌}
use borrow.Author.Rules.{rules}
use Rattle.internal_events.proofs.+coupled_internal_internal_turn_turns.Goals as goal

pub coupled_internal-returns-in_err-unpark-clause-gives : goal.coupled_internal-returns-in_err-unpark-clause-gives
coupled_internal-returns-in_err-unpark-clause-gives t c =
    let refused = err_from_is_err_and c.from_residual.result c.from_residual.ensures.1 in
    let a = c.args in
    rw (refused.1, refused.2) (unpark-stops (table_in a.state.now) a.services.now a.depth a.clock a.row c.requires.0.in_table c.requires.1 a.mem.now _ c.in_err-unpark.ensures.does)

pub coupled_internal-empty-requires : goal.coupled_internal-empty-requires
coupled_internal-empty-requires t c =
    let a = c.args in
    row-kind (table_in a.state.now) c.unpark.new.mem a.row c.requires.0.in_table c.in_ok-unpark.ensures.does.ready coupled c.requires.1

pub coupled_internal-turns-requires : goal.coupled_internal-turns-requires
coupled_internal-turns-requires t c =
    let a = c.args in
    let t' = table_in a.state.now in
    let mid = c.unpark.new.mem in
    let next = c.empty.new.mem in
    let m = c.in_ok-unpark.ensures.does in
    let i = c.requires.0.in_table in
    let ready = empty-ready t' a.row i c.requires.1 mid next m.ready (own_at t' a.row i mid next m.ready c.empty.ensures.owns) (emptied-at t' a.row i mid next m.ready c.empty.ensures.emptied) c.empty.ensures.place in
    let long : length next ≡ length a.mem.now = c.empty.auto.mem ∙ c.unpark.auto.mem in (
      search rules,
      (
        record { scene = record { inside = c.requires.0.scene.inside; ready = ready; time = c.requires.0.scene.time }; in_table = i },
        c.requires.1,
        c.requires.2,
        c.requires.3,
        rw long c.requires.4,
      ),
    )

pub coupled_internal-returns : goal.coupled_internal-returns
coupled_internal-returns t c =
    let a = c.args in
    let t' = table_in a.state.now in
    let mid = c.unpark.new.mem in
    let next = c.empty.new.mem in
    let after = c.turns.new.mem in
    let m = c.in_ok-unpark.ensures.does in
    let i = c.requires.0.in_table in
    let own = own_at t' a.row i mid next m.ready c.empty.ensures.owns in
    let empty = emptied-at t' a.row i mid next m.ready c.empty.ensures.emptied in
    let long : length next ≡ length a.mem.now = c.empty.auto.mem ∙ c.unpark.auto.mem in
    let len = length a.mem.now in
    record {
      gives = coupled-gives t' a.services.now a.depth a.clock a.row i c.requires.1 a.mem.now a.at mid next after c.turns.result m (empty-world t' a.row i c.requires.1 mid next m.ready own empty c.empty.ensures.place) c.turns.ensures.hands;
      frame = frame_then t' a.at len a.mem.now next after
          (frame_then t' a.at len a.mem.now mid next (frame-none t' a.at len a.mem.now mid c.unpark.ensures.frame)
          (frame-none t' a.at len mid next (frame-kind t' mid next a.row 0 0 i m.ready.laid (λ p l. inr (omega arith)) coupled c.requires.1 (begin_in mid a.row) refl c.empty.ensures.owns)))
          (frame-to t' a.at (length next) len next after long c.turns.ensures.frame);
    }

pub internal-returns-clause-gives : goal.internal-returns-clause-gives
internal-returns-clause-gives t c =
    let a = c.args in
    let t' = table_in a.state.now in
    let q : suc (a.depth - 1) ≡ a.depth = (let z = c.if-depth-eq0.false in omega arith) in
    subst (λ n. Gives c.atom_internal.result a.at (Step.internal t' a.services.now n a.clock a.row) t' a.mem.now c.atom_internal.new.mem) q (c.atom_internal.ensures.gives (a.depth - 1))

pub turn-returns-then-not-is_due-clause-hands : goal.turn-returns-then-not-is_due-clause-hands
turn-returns-then-not-is_due-clause-hands t c =
    let a = c.args in
    no-turn (table_in a.state.now) a.services.now a.depth a.clock a.row a.component a.at a.count a.mem.now c.requires.0.scene.ready c.requires.6 (sym c.is_due.ensures ∙ c.if-not-is_due.true)

pub turn-returns-clause-hands : goal.turn-returns-clause-hands
turn-returns-clause-hands t c =
    let a = c.args in
    let t' = table_in a.state.now in
    let mid = c.internal.new.mem in
    let from = a.at + 256 in
    let kept = outs-kept t' from (length a.mem.now) a.at a.count a.mem.now mid c.requires.4 (let f = c.requires.6 in omega arith) c.internal.ensures.frame in
    turn-goes t' a.services.now a.depth a.clock a.row a.component a.at a.count a.mem.now (sym c.is_due.ensures ∙ c.if-not-is_due.false) from c.in_ok-messages.messages mid c.hand_all.new.mem c.hand_all.result c.in_ok-messages.ensures.gives kept (c.hand_all.ensures.hands a.services.now)

pub turns-loop-component-init : goal.turns-loop-component-init
turns-loop-component-init t c =
    let a = c.args in
    let t' = table_in a.state.now in
    (c.id_of-owner.ensures, refl, adding-start t' (outs_in a.at) most_out (Step.turn t' a.services.now a.depth (Step.internal t' a.services.now a.depth a.clock) a.row) (is_one t' c.id_of-owner.result) a.at (length a.mem.now) a.mem.now 0 (length t'.rows) c.requires.0.scene.ready (omega arith))

pub turns-turn-requires : goal.turns-turn-requires
turns-turn-requires t c =
    let a = c.args in
    let t' = table_in a.state.now in
    let loop = c.loop-component in
    let g = loop.invariant.2 in
    let found = sym c.next_component.ensures ∙ c.in-Some.is in
    let bounds = sweep-bounds {S = ℕ} (λ k s. done s) (is_one t' c.id_of-owner.result) c.loop-component.from (length t'.rows) 0 c.in-Some.component found in
    let one = subst T (ap (λ (o : ℕ). is_one t' o c.in-Some.component) loop.invariant.0) (subst T (sym bounds.2) tt) in (
      search rules,
      (
        record { scene = record { inside = c.requires.0.scene.inside; ready = g.ready; time = c.requires.0.scene.time }; in_table = c.requires.0.in_table },
        c.requires.1,
        bounds.1,
        in-components a.state.now c.requires.0.scene.inside (id_at t' a.row) c.in-Some.component bounds.1 one (Deep t' a.depth) c.requires.2,
        c.requires.3,
        rw loop.invariant.1 c.requires.4,
        g.few,
      ),
    )

pub turns-returns-in_err-count-clause-hands : goal.turns-returns-in_err-count-clause-hands
turns-returns-in_err-count-clause-hands t c =
    let refused = err_from_is_err_and c.from_residual.result c.from_residual.ensures.1 in
    let a = c.args in
    let t' = table_in a.state.now in
    let visit = Step.turn t' a.services.now a.depth (Step.internal t' a.services.now a.depth a.clock) a.row in
    let test = is_one t' c.id_of-owner.result in
    let end = length t'.rows in
    let hi = length a.mem.now in
    let loop = c.loop-component in
    let g = loop.invariant.2 in
    let found = sym c.next_component.ensures ∙ c.in-Some.is in
    let after = c.turn.new.mem in
    let stops = adding-stops t' (outs_in a.at) most_out visit test a.at hi a.mem.now 0 end loop.from loop.mem loop.count g c.in-Some.component _ after found c.in_err-count.ensures.hands in
    rw (refused.1, refused.2) (hands-all t' visit _ _ (components-all t' c.id_of-owner.result end a.row loop.invariant.0 refl) (Err _) 0 a.at a.mem.now after stops)

pub turns-overflow_add-from : goal.turns-overflow_add-from
turns-overflow_add-from t c =
    let a = c.args in
    let t' = table_in a.state.now in
    let found = sym c.next_component.ensures ∙ c.in-Some.is in
    let bounds = sweep-bounds {S = ℕ} (λ k s. done s) (is_one t' c.id_of-owner.result) c.loop-component.from (length t'.rows) 0 c.in-Some.component found in
    omega (arith, bounds.1, (sizes-in a.state.now c.requires.0.scene.inside).0)

pub turns-loop-component-smaller : goal.turns-loop-component-smaller
turns-loop-component-smaller t c =
    let a = c.args in
    let t' = table_in a.state.now in
    let found = sym c.next_component.ensures ∙ c.in-Some.is in
    let bounds = sweep-bounds {S = ℕ} (λ k s. done s) (is_one t' c.id_of-owner.result) c.loop-component.from (length t'.rows) 0 c.in-Some.component found in
    omega (arith, bounds.0, bounds.1)

pub turns-loop-component-preserved : goal.turns-loop-component-preserved
turns-loop-component-preserved t c =
    let a = c.args in
    let t' = table_in a.state.now in
    let visit = Step.turn t' a.services.now a.depth (Step.internal t' a.services.now a.depth a.clock) a.row in
    let test = is_one t' c.id_of-owner.result in
    let end = length t'.rows in
    let hi = length a.mem.now in
    let loop = c.loop-component in
    let g = loop.invariant.2 in
    let found = sym c.next_component.ensures ∙ c.in-Some.is in
    let after = c.turn.new.mem in (
      loop.invariant.0,
      c.turn.auto.mem ∙ loop.invariant.1,
      adding-on t' (outs_in a.at) most_out visit test a.at hi a.mem.now 0 end loop.from loop.mem loop.count g c.in-Some.component c.in_ok-count.count after found c.in_ok-count.ensures.hands (frame-to t' a.at (length loop.mem) hi loop.mem after loop.invariant.1 c.turn.ensures.frame),
    )

pub turns-returns-clause-hands : goal.turns-returns-clause-hands
turns-returns-clause-hands t c =
    let a = c.args in
    let t' = table_in a.state.now in
    let visit = Step.turn t' a.services.now a.depth (Step.internal t' a.services.now a.depth a.clock) a.row in
    let test = is_one t' c.id_of-owner.result in
    let end = length t'.rows in
    let hi = length a.mem.now in
    let loop = c.loop-component in
    let g = loop.invariant.2 in
    let m = adding-none t' (outs_in a.at) most_out visit test a.at hi a.mem.now 0 end loop.from loop.mem loop.count g (sym c.next_component.ensures ∙ c.in_default.is) in
    hands-all t' visit _ _ (components-all t' c.id_of-owner.result end a.row loop.invariant.0 refl) (Ok loop.count) 0 a.at a.mem.now loop.mem m
