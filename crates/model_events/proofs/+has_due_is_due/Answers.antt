-- `model_events::is_due` and `has_due` meet their contracts. The loop: whether one of the components left is due is whether one of all is. Assumes nothing.
use mathlib.Core.Path.{sym, ap, ◌∙◌}
use lib.ListN.{length}
use native.Mathlib.Omega.{arith}
use lib.Ieee.{Float, eq, of_bits}
use Rattle.times.specs.Time.{instant}
use Rattle.rules.specs.Base.{done}
use Rattle.rules.specs.Step.{due}
use Rattle.selection.specs.Selected.{sweep-bounds}
use Rattle.lookup.specs.Inside.{table_in}
use Rattle.lookup.specs.InsideLaws.{fine-in, sizes-in}
use Rattle.views.specs.World.{states_in}
use Rattle.views.proofs.Timers.{head-here, own-timer, timer-here}
use Rattle.model_events.specs.Due.{some-on, some-none, due-none}
use Rattle.model_events.specs.DueHere.{is_one, due-here, due-held, due-inside}
use Prim.Native.Nat.{ℕ}
use borrow.Author.Rules.{rules}
use Rattle.model_events.proofs.+has_due_is_due.Goals as goal

pub has_due-is_due-requires : goal.has_due-is_due-requires
has_due-is_due-requires t c =
    let a = c.args in
    let t' = table_in a.state.now in
    let found = sym c.next_component.ensures ∙ c.in-Some.is in
    let bounds = sweep-bounds {S = ℕ} (λ k s. done s) (is_one t' c.id_of-owner.result) c.loop-component.from (length t'.rows) 0 c.in-Some.component found in
    (search rules, (c.requires.0, c.requires.1, bounds.1))

pub has_due-returns-then-is_due : goal.has_due-returns-then-is_due
has_due-returns-then-is_due t c =
    let a = c.args in
    let t' = table_in a.state.now in
    let found = sym c.next_component.ensures ∙ c.in-Some.is in
    sym (some-on (due t' a.depth (states_in t' a.mem.now)) (is_one t' c.id_of-owner.result) c.loop-component.from (length t'.rows) c.in-Some.component found ∙ rw (sym c.is_due.ensures ∙ c.if-is_due.true))
    ∙ c.loop-component.invariant.1

pub has_due-overflow_add-from : goal.has_due-overflow_add-from
has_due-overflow_add-from t c =
    let a = c.args in
    let t' = table_in a.state.now in
    let found = sym c.next_component.ensures ∙ c.in-Some.is in
    let bounds = sweep-bounds {S = ℕ} (λ k s. done s) (is_one t' c.id_of-owner.result) c.loop-component.from (length t'.rows) 0 c.in-Some.component found in
    omega (arith, bounds.1, (sizes-in a.state.now c.requires.0).0)

pub has_due-loop-component-smaller : goal.has_due-loop-component-smaller
has_due-loop-component-smaller t c =
    let a = c.args in
    let t' = table_in a.state.now in
    let found = sym c.next_component.ensures ∙ c.in-Some.is in
    let bounds = sweep-bounds {S = ℕ} (λ k s. done s) (is_one t' c.id_of-owner.result) c.loop-component.from (length t'.rows) 0 c.in-Some.component found in
    omega (arith, bounds.0, bounds.1)

pub has_due-loop-component-preserved : goal.has_due-loop-component-preserved
has_due-loop-component-preserved t c =
    let a = c.args in
    let t' = table_in a.state.now in
    let found = sym c.next_component.ensures ∙ c.in-Some.is in (
      c.loop-component.invariant.0,
      sym (some-on (due t' a.depth (states_in t' a.mem.now)) (is_one t' c.id_of-owner.result) c.loop-component.from (length t'.rows) c.in-Some.component found ∙ rw (sym c.is_due.ensures ∙ c.if-is_due.false)) ∙ c.loop-component.invariant.1,
    )

pub has_due-returns : goal.has_due-returns
has_due-returns t c =
    let a = c.args in
    let t' = table_in a.state.now in
    sym (some-none (due t' a.depth (states_in t' a.mem.now)) (is_one t' c.id_of-owner.result) c.loop-component.from (length t'.rows) (sym c.next_component.ensures ∙ c.in_default.is))
    ∙ c.loop-component.invariant.1

pub is_due-returns-then-depth-eq0 : goal.is_due-returns-then-depth-eq0
is_due-returns-then-depth-eq0 t c =
    let a = c.args in
    sym (ap (λ (d : ℕ). due (table_in a.state.now) d (states_in (table_in a.state.now) a.mem.now) a.row) c.if-depth-eq0.true ∙ due-none (table_in a.state.now) (fine-in a.state.now c.requires.0) (states_in (table_in a.state.now) a.mem.now) c.requires.1.good.0 a.row)

pub is_due-returns-then-held_at-gt0 : goal.is_due-returns-then-held_at-gt0
is_due-returns-then-held_at-gt0 t c =
    let a = c.args in
    sym (due-held (table_in a.state.now) (fine-in a.state.now c.requires.0) a.mem.now c.requires.1 a.row c.requires.2 a.depth (let z = c.if-depth-eq0.false in omega arith) (sym c.is_coupled.ensures ∙ c.if-is_coupled.true)
    (let h = c.held_at.ensures in let z = c.if-held_at-gt0.true in omega arith))

pub is_due-returns-then-is_coupled : goal.is_due-returns-then-is_coupled
is_due-returns-then-is_coupled t c =
    let a = c.args in
    c.has_due.ensures
    ∙ sym (due-inside (table_in a.state.now) (fine-in a.state.now c.requires.0) a.mem.now c.requires.1 a.row c.requires.2 a.depth (let z = c.if-depth-eq0.false in omega arith) (sym c.is_coupled.ensures ∙ c.if-is_coupled.true)
    (let h = c.held_at.ensures in let z = c.if-held_at-gt0.false in omega arith))

pub is_due-timer_at-requires : goal.is_due-timer_at-requires
is_due-timer_at-requires t c =
    let a = c.args in (
      head-here (table_in a.state.now) a.mem.now a.row c.requires.2 c.requires.1.laid,
      timer-here (table_in a.state.now) a.mem.now a.row c.requires.2 (sym c.is_coupled.ensures ∙ c.if-is_coupled.false) (own-timer (table_in a.state.now) a.mem.now a.row c.requires.2 c.requires.1),
    )

pub is_due-returns : goal.is_due-returns
unfolding of_bits
is_due-returns t c =
    let a = c.args in
    ap (λ (x : Float). eq x instant) c.timer_at.ensures
    ∙ sym (due-here (table_in a.state.now) (fine-in a.state.now c.requires.0) a.mem.now c.requires.1 a.row c.requires.2 a.depth (let z = c.if-depth-eq0.false in omega arith) (sym c.is_coupled.ensures ∙ c.if-is_coupled.false))
