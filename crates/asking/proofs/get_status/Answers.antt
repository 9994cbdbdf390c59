-- `asking::get_status` meets its contract. The loop: of the models without parent that have the id, none was passed over. Assumes nothing.
use Prim.Native.Nat.{◌+◌}
use mathlib.Core.Path.{refl, sym, ap, ◌∙◌}
use mathlib.Core.List.{[], ◌∷◌}
use native.Mathlib.Omega.{arith}
use Rattle.std.specs.Prelude.{Ok}
use Rattle.asking.specs.declared.Status.{Status}
use Rattle.lookup.specs.Inside.{table_in}
use Rattle.lookup.specs.InsideLaws.{sizes-in}
use Rattle.storing.specs.StoredLaws.{stored_of}
use Rattle.asking.specs.AskLaws.{wanted, wanted-none, wanted-here, wanted-on, root_below, status-answered}
use Rattle.asking.proofs.get_status.Goals as goal

pub loop-row-init : goal.loop-row-init
loop-row-init c = refl

pub next_parentless-requires : goal.next_parentless-requires
next_parentless-requires c =
    (stored_of c.args.state.now c.requires).inside

pub id_of-requires : goal.id_of-requires
id_of-requires c =
    (stored_of c.args.state.now c.requires).inside

pub status_at-requires : goal.status_at-requires
status_at-requires c =
    let a = c.args in
    (c.requires, (root_below a.id (table_in a.state.now) c.loop-row.from c.in-Some.row (sym c.next_parentless.ensures ∙ c.in-Some.is)).1)

pub returns-then-id_of-id : goal.returns-then-id_of-id
returns-then-id_of-id c =
    let a = c.args in
    let t = table_in a.state.now in
    let row = c.in-Some.row in
    ap (λ (x : Status). Ok x) c.status_at.ensures
    ∙ status-answered a.state.now c.requires a.id (row ∷ wanted a.id t (row + 1))
    (c.loop-row.invariant ∙ wanted-here a.id t c.loop-row.from row (sym c.next_parentless.ensures ∙ c.in-Some.is) (sym c.id_of.ensures ∙ c.if-id_of-id.true))

pub overflow_add-from : goal.overflow_add-from
overflow_add-from c =
    let a = c.args in
    let below = root_below a.id (table_in a.state.now) c.loop-row.from c.in-Some.row (sym c.next_parentless.ensures ∙ c.in-Some.is) in
    omega (arith, (sizes-in a.state.now (stored_of a.state.now c.requires).inside).0)

pub loop-row-smaller : goal.loop-row-smaller
loop-row-smaller c =
    let a = c.args in
    let below = root_below a.id (table_in a.state.now) c.loop-row.from c.in-Some.row (sym c.next_parentless.ensures ∙ c.in-Some.is) in
    omega arith

pub loop-row-preserved : goal.loop-row-preserved
loop-row-preserved c =
    let a = c.args in
    let t = table_in a.state.now in
    let row = c.in-Some.row in
    (c.loop-row.invariant ∙ wanted-on a.id t c.loop-row.from row (sym c.next_parentless.ensures ∙ c.in-Some.is) (λ e. c.if-id_of-id.false (c.id_of.ensures ∙ e)))

pub returns : goal.returns
returns c =
    let a = c.args in
    status-answered a.state.now c.requires a.id [] (c.loop-row.invariant ∙ wanted-none a.id (table_in a.state.now) c.loop-row.from (sym c.next_parentless.ensures ∙ c.in_default.is))
