-- `lookup::component_of` meets its contract. Ids differ, so that the first row with this id is the only one, and the search for a component from there on finds it or not. Assumes nothing.
use Rattle.std.specs.Prelude.{Some}
use mathlib.Core.Path.{◌≡◌, sym, ap, ◌∙◌}
use mathlib.Core.Bool.{false≢true}
use Rattle.words.specs.SearchLaws.{is_found}
use Rattle.lookup.specs.InsideLaws.{no-such-row, its-component, not-its-component}
use Rattle.lookup.proofs.component_of.Goals as goal

pub returns-in_err-row : goal.returns-in_err-row
returns-in_err-row c =
    let a = c.args in
    rw c.from_residual.ensures (no-such-row a.state.now c.requires a.owner a.id (sym (rw c.models_in-models.ensures at c.next_with_id.ensures) ∙ c.in_err-row.was))

pub returns-in_err-found : goal.returns-in_err-found
returns-in_err-found c =
    let a = c.args in
    rw c.from_residual-in_err-found.ensures
    (not-its-component a.state.now c.requires a.owner a.id c.in_ok-row.row (sym (rw c.models_in-models.ensures at c.next_with_id.ensures) ∙ c.in_ok-row.was)
    (λ h. false≢true (ap is_found (sym c.in_err-found.was ∙ (rw c.models_in-models.ensures at c.next_component.ensures) ∙ h))))

pub returns-then-found-row : goal.returns-then-found-row
returns-then-found-row c =
    let a = c.args in
    its-component a.state.now c.requires a.owner a.id c.in_ok-row.row (sym (rw c.models_in-models.ensures at c.next_with_id.ensures) ∙ c.in_ok-row.was)
    (sym (rw c.models_in-models.ensures at c.next_component.ensures) ∙ c.in_ok-found.was ∙ ap Some c.if-found-row.true)

pub returns-else-found-row : goal.returns-else-found-row
returns-else-found-row c =
    let a = c.args in
    not-its-component a.state.now c.requires a.owner a.id c.in_ok-row.row (sym (rw c.models_in-models.ensures at c.next_with_id.ensures) ∙ c.in_ok-row.was)
    (λ h. let e : Some c.in_ok-found.found ≡ Some c.in_ok-row.row = sym c.in_ok-found.was ∙ (rw c.models_in-models.ensures at c.next_component.ensures) ∙ h in c.if-found-row.false (cc))
