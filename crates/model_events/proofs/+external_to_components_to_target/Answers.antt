-- `model_events::external`, `to_components` and `to_target` meet their contracts. The loop: what is left of the couplings, from the words as they stand, is the whole from the words at first. Assumes nothing.
use Rattle.std.proofs.lemmas.Result.{err_from_is_err_and}
use Rattle.std.specs.Prelude.{Err, Ok, Option, Result, ⊤}
use Rattle.rules.specs.declared.Refusal.{Refusal}
use mathlib.Core.Path.{◌≡◌, refl, sym, subst, ◌∙◌}
use native.Mathlib.Omega.{arith}
use lib.ListN.{length}
use Rattle.rules.specs.Base.{done}
use Rattle.rules.specs.Table.{id_at, components}
use Rattle.rules.specs.Ends.{All}
use Rattle.rules.specs.Depth.{Deep}
use Rattle.rules.specs.Step as Step
use Rattle.selection.specs.Selecting.{is_input}
use Rattle.selection.specs.Selected.{sweep-bounds}
use Rattle.lookup.specs.InsideLaws.{sizes-in, coupling-fits}
use Rattle.lookup.specs.Inside.{table_in, couplings_in}
use Rattle.views.specs.World.{Does}
use Rattle.views.proofs.Frames.{frame_same}
use Rattle.sweeps.specs.Loops.{going_start, going_on, going-stops, going-none}
use Rattle.model_events.specs.External.{along_input, coupled-does, target_none, target_one}
use Rattle.model_events.specs.Along.{found-deep}
use mathlib.Core.List.{[], ◌∷◌}
use lib.Dec.{eqb}
use Rattle.rules.specs.Base.{those}
use Rattle.selection.specs.Selected.{leads_to}
use Rattle.lookup.specs.Inside.{found_in}
use Prim.Native.Nat.{ℕ, suc, ◌-◌}
use borrow.Author.Rules.{rules}
use Rattle.model_events.proofs.+external_to_components_to_target.Goals as goal

-- src/lib.rt:76:1
pub external-returns : goal.external-returns
external-returns t c =
    let a = c.args in
    let q : suc (a.depth - 1) ≡ a.depth = (let z = c.if-depth-eq0.false in omega arith) in
    let d = subst (λ n. Does c.atom_external.result (Step.external (table_in a.state.now) a.services.now n a.clock a.row a.port a.content) (table_in a.state.now) a.mem.now c.atom_external.new.mem) q (c.atom_external.ensures.does (a.depth - 1)) in
    record { does = d; frame = c.atom_external.ensures.frame }

pub to_components-loop-coupling-init : goal.to_components-loop-coupling-init
to_components-loop-coupling-init t c =
    let a = c.args in
    let s = a.state.now in
    (c.id_of-owner.ensures, refl, going_start (table_in s) (along_input s a.services.now a.depth a.clock c.id_of-owner.result a.content) (is_input (couplings_in s) c.id_of-owner.result a.port) a.mem.now (length (table_in s).couplings) c.requires.0.scene.ready)

pub to_components-to_target-requires : goal.to_components-to_target-requires
to_components-to_target-requires t c =
    let a = c.args in
    let s = a.state.now in
    let found = sym c.next_input.ensures ∙ c.in-Some.is in
    let bounds = sweep-bounds {S = ℕ} (λ k s. done s) (is_input (couplings_in s) c.id_of-owner.result a.port) c.loop-coupling.from (length (table_in s).couplings) 0 c.in-Some.coupling found in
    let inside = c.requires.0.scene in
    (search rules, (record { inside = inside.inside; ready = c.loop-coupling.invariant.2.ready; time = inside.time }, bounds.1, subst (λ (o : ℕ). All (Deep (table_in s) a.depth) (components (table_in s) o)) (sym c.loop-coupling.invariant.0) c.requires.2))

pub to_components-returns-in_err-to_target-clause-does : goal.to_components-returns-in_err-to_target-clause-does
to_components-returns-in_err-to_target-clause-does t c =
    let refused = err_from_is_err_and c.from_residual.result c.from_residual.ensures.1 in
    let a = c.args in
    let s = a.state.now in
    let t' = table_in s in
    let visit = along_input s a.services.now a.depth a.clock c.id_of-owner.result a.content in
    let test = is_input (couplings_in s) c.id_of-owner.result a.port in
    let end = length t'.couplings in
    let loop = c.loop-coupling in
    let found = sym c.next_input.ensures ∙ c.in-Some.is in
    let after = c.to_target.new.mem in
    let d = subst (λ (r : Result ⊤ Refusal). Does r (visit c.in-Some.coupling) t' loop.mem after) c.in_err-to_target.was c.to_target.ensures.does in
    let stops = going-stops t' visit test a.mem.now end loop.from loop.mem loop.invariant.2 c.in-Some.coupling _ after found d in
    rw (refused.1, refused.2) (coupled-does s c.requires.0.scene.inside a.services.now a.depth a.clock a.mem.now after (Err _) a.row a.port a.content c.id_of-owner.result end c.requires.1 loop.invariant.0 refl stops)

pub to_components-overflow_add-from : goal.to_components-overflow_add-from
to_components-overflow_add-from t c =
    let a = c.args in
    let s = a.state.now in
    let found = sym c.next_input.ensures ∙ c.in-Some.is in
    let bounds = sweep-bounds {S = ℕ} (λ k s. done s) (is_input (couplings_in s) c.id_of-owner.result a.port) c.loop-coupling.from (length (table_in s).couplings) 0 c.in-Some.coupling found in
    omega (arith, bounds.1, (sizes-in s c.requires.0.scene.inside).2)

pub to_components-loop-coupling-smaller : goal.to_components-loop-coupling-smaller
to_components-loop-coupling-smaller t c =
    let a = c.args in
    let s = a.state.now in
    let found = sym c.next_input.ensures ∙ c.in-Some.is in
    let bounds = sweep-bounds {S = ℕ} (λ k s. done s) (is_input (couplings_in s) c.id_of-owner.result a.port) c.loop-coupling.from (length (table_in s).couplings) 0 c.in-Some.coupling found in
    omega (arith, bounds.0, bounds.1)

pub to_components-loop-coupling-preserved : goal.to_components-loop-coupling-preserved
to_components-loop-coupling-preserved t c =
    let a = c.args in
    let s = a.state.now in
    let t' = table_in s in
    let visit = along_input s a.services.now a.depth a.clock c.id_of-owner.result a.content in
    let test = is_input (couplings_in s) c.id_of-owner.result a.port in
    let end = length t'.couplings in
    let loop = c.loop-coupling in
    let found = sym c.next_input.ensures ∙ c.in-Some.is in
    let after = c.to_target.new.mem in
    let moves = subst (λ (r : Result ⊤ Refusal). Does r (visit c.in-Some.coupling) t' loop.mem after) c.in_ok-to_target.was c.to_target.ensures.does in
    (loop.invariant.0, c.to_target.auto.mem ∙ loop.invariant.1, going_on t' visit test a.mem.now end loop.from loop.mem loop.invariant.2 c.in-Some.coupling after found moves c.to_target.ensures.frame)

pub to_components-returns : goal.to_components-returns
to_components-returns t c =
    let a = c.args in
    let s = a.state.now in
    let t' = table_in s in
    let g = c.loop-coupling.invariant.2 in
    let m = going-none t' (along_input s a.services.now a.depth a.clock c.id_of-owner.result a.content) (is_input (couplings_in s) c.id_of-owner.result a.port) a.mem.now (length t'.couplings) c.loop-coupling.from c.loop-coupling.mem g (sym c.next_input.ensures ∙ c.in_default.is) in
    record { does = coupled-does s c.requires.0.scene.inside a.services.now a.depth a.clock a.mem.now c.loop-coupling.mem (Ok tt) a.row a.port a.content c.id_of-owner.result (length t'.couplings) c.requires.1 c.loop-coupling.invariant.0 refl m; frame = g.frame }

-- src/lib.rt:157:13
pub to_target-overflow_cast-to : goal.to_target-overflow_cast-to
to_target-overflow_cast-to t c =
    let a = c.args in
    let f = coupling-fits a.state.now c.requires.0.inside a.coupling c.requires.1 in
    omega (arith, f.1, c.coupling_target-to.ensures.1)

-- src/lib.rt:150:33
pub to_target-external-requires : goal.to_target-external-requires
to_target-external-requires t c =
    let a = c.args in
    let e = subst (λ (x : Option ℕ). found_in x ≡ those (λ i. eqb (id_at (table_in a.state.now) i) c.coupling_target-to.result.id) (components (table_in a.state.now) a.owner)) c.in-Some.is c.component_of.ensures in
    let d = found-deep a.state.now c.requires.0.inside a.owner c.coupling_target-to.result.id c.in-Some.component a.depth c.requires.2 e in
    (search rules, (record { scene = c.requires.0; in_table = d.0 }, d.1))

-- src/lib.rt:133:1
pub to_target-returns-in-None : goal.to_target-returns-in-None
to_target-returns-in-None t c =
    let a = c.args in
    let e = subst (λ (x : Option ℕ). found_in x ≡ those (λ i. eqb (id_at (table_in a.state.now) i) c.coupling_target-to.result.id) (components (table_in a.state.now) a.owner)) c.in-None.is c.component_of.ensures in
    let f = subst (λ (n : ℕ). [] ≡ those (λ i. eqb (id_at (table_in a.state.now) i) n) (components (table_in a.state.now) a.owner)) c.coupling_target-to.ensures.0 e in
    record { does = target_none (table_in a.state.now) a.services.now a.depth a.clock a.owner (leads_to (couplings_in a.state.now) a.coupling) a.content a.mem.now c.requires.0.ready f; frame = frame_same (table_in a.state.now) 0 0 a.mem.now }

-- src/lib.rt:133:1
pub to_target-returns-in-Some : goal.to_target-returns-in-Some
to_target-returns-in-Some t c =
    let a = c.args in
    let e = subst (λ (x : Option ℕ). found_in x ≡ those (λ i. eqb (id_at (table_in a.state.now) i) c.coupling_target-to.result.id) (components (table_in a.state.now) a.owner)) c.in-Some.is c.component_of.ensures in
    let f = subst (λ (n : ℕ). (c.in-Some.component ∷ []) ≡ those (λ i. eqb (id_at (table_in a.state.now) i) n) (components (table_in a.state.now) a.owner)) c.coupling_target-to.ensures.0 e in
    let d = subst (λ (n : ℕ). Does c.external.result (Step.external (table_in a.state.now) a.services.now a.depth a.clock c.in-Some.component n a.content) (table_in a.state.now) a.mem.now c.external.new.mem) c.coupling_target-to.ensures.1 c.external.ensures.does in
    record { does = target_one (table_in a.state.now) a.services.now a.depth a.clock a.owner (leads_to (couplings_in a.state.now) a.coupling) a.content a.mem.now c.external.new.mem c.external.result c.in-Some.component f d; frame = c.external.ensures.frame }
