-- A connector and a coupling that intake refuses break the rule that is named. Assumes nothing.
use Rattle.std.specs.Prelude.{Option, ℕ, ◌/◌, ◌^◌, ◌≡◌, refl, Bool, true, false, ◌&&◌, List, length, T, eqb, if◌then◌else◌, None, Some}
use Rattle.std.proofs.Common.{sym, ◌∙◌, subst, arith}
use Rattle.std.proofs.lemmas.Bool.{false≢true}
use borrow.Author.Tests.{leb-false, ltb-false, eqb-true, eqb-false}
use Rattle.rules.specs.Base.{some_of}
use Rattle.rules.specs.Table.{Row, is_coupled, is_parent}
use Rattle.rules.specs.Intake.{is_coupled_id, is_component_of}
use Rattle.rules.specs.Layout.{cell, model_width, connector_width, coupling_width, coupling_in}
use Rattle.rules.specs.Ends.{All, nil, ◌&◌}
use Rattle.rules.specs.Decides.{passes, CoupledId, coupled-id-decides, component-decides}
use Rattle.table.specs.Judging.{input_in, all_in, cells_fit, connector_keeps, coupling_keeps, owner_fits}
use Rattle.table.specs.Searched.{has-row}
use Rattle.table.specs.Earlier.{coupled-id-is}
use Rattle.reasons.specs.declared.Reason.{Reason}
use Rattle.reasons.specs.declared.Reason.TheVariants.{ConnectorWide, CouplingWide, NoComponent}
use Rattle.reasons.specs.Checks.{widths, first_broken}
use Rattle.reasons.specs.Reasons.{coupled_before, connector_checks, connector_reason, owner_checks, owner_reason, end_reason, coupling_checks, coupling_reason}
use Rattle.reasons.specs.Breaks.{ConnectorBreaks, CouplingBreaks}
use Rattle.reasons.specs.CheckLaws.{Kept, named, wide-named}

-- ---- a connector
module _ (row : List ℕ) (bad : connector_keeps row ≡ false) where
  connector-complete : All Kept (connector_checks row) → connector_keeps row ≡ true
  unfolding connector_keeps cells_fit
  connector-complete (w & a & b & p & q & nil) = rw (w, a, b, p, q)

  pub connector-told : ConnectorBreaks row (connector_reason row)
  unfolding connector_reason
  connector-told =
      named (ConnectorBreaks row) (connector_checks row) None
      ((λ h. ConnectorBreaks.cut_short (eqb-false (length row) connector_width h)) & wide-named (ConnectorBreaks row) ConnectorWide row 0 4 (λ j a b wide. ConnectorBreaks.wide (omega arith) wide))
      (λ kept. absurd (false≢true (sym bad ∙ connector-complete kept)))

-- ---- a coupling, with the rows that tests of some row of the table give the same of
module _ (models row : List ℕ) (rows : List Row) (same : (test : Row → Bool) → some_of test rows ≡ some_of test (all_in models)) (bad : coupling_keeps (all_in models) row ≡ false) where
  abbrev P : Option Reason → Type 0
  P = CouplingBreaks rows row

  owner-found : is_coupled_id (all_in models) (cell row 0) ≡ coupled_before models (length models / model_width) (cell row 0)
  owner-found =
      coupled-id-is models (length models / model_width) (cell row 0)
      ∙ has-row models (length models / model_width) (cell row 0) 1 4 (omega arith) (omega arith) refl

  complete : All Kept (coupling_checks row) → All Kept (widths CouplingWide row 0 1) → All Kept (widths CouplingWide row 2 4) → All Kept (owner_checks models (cell row 0) (cell row 1) (cell row 4)) → coupling_keeps (all_in models) row ≡ true
  unfolding coupling_keeps owner_fits cells_fit
  complete (w & k1 & k3 & nil) (a & nil) (b & p & q & r & nil) (o & t & nil) = rw (w, a, b, p, q, r, k1, k3, owner-found ∙ o, t)

  owner-breaks : coupled_before models (length models / model_width) (cell row 0) ≡ false → CoupledId rows (cell row 0) → ⊥
  owner-breaks h found = subst T (same (λ r. eqb r.id (cell row 0) && is_coupled r.kind) ∙ owner-found ∙ h) (passes (coupled-id-decides rows (cell row 0)) found)

  target-breaks : (if eqb (cell row 1) 1 then is_component_of (all_in models) (cell row 0) (cell row 4) else true) ≡ false → P (Some NoComponent)
  target-breaks = go (eqb (cell row 1) 1) refl
    where
      input : cell row 1 ≡ 1 → coupling_in row ≡ Some (input_in row, cell row 2)
      input e = rw e

      go : (b : Bool) → eqb (cell row 1) 1 ≡ b → (if b then is_component_of (all_in models) (cell row 0) (cell row 4) else true) ≡ false → P (Some NoComponent)
      go true e h =
          CouplingBreaks.no-component (input (eqb-true (cell row 1) 1 e))
          (λ found. subst T (same (λ r. eqb r.id (cell row 4) && is_parent (cell row 0) r.parent) ∙ h) (passes (component-decides rows (cell row 0) (cell row 4)) found))
      go false e h = absurd (false≢true (sym h))

  pub coupling-told : P (coupling_reason models row)
  unfolding coupling_reason end_reason owner_reason
  coupling-told =
      named P (coupling_checks row) (end_reason models row)
      ((λ h. CouplingBreaks.cut_short (eqb-false (length row) coupling_width h)) & (λ h. CouplingBreaks.unknown-kind (λ a b. let l = leb-false 1 (cell row 1) h in omega arith))
      & (λ h. CouplingBreaks.unknown-kind (λ a b. let l = leb-false (cell row 1) 3 h in omega arith)) & nil)
      (λ shape. named P (widths CouplingWide row 0 1) (first_broken (widths CouplingWide row 2 4) (owner_reason models (cell row 0) (cell row 1) (cell row 4))) ((λ h. CouplingBreaks.wide-owner (ltb-false (cell row 0) (2 ^ 16) h)) & nil)
      (λ owner. named P (widths CouplingWide row 2 4) (owner_reason models (cell row 0) (cell row 1) (cell row 4)) (wide-named P CouplingWide row 2 4 (λ j a b wide. CouplingBreaks.wide-end a (omega arith) wide))
      (λ ends. named P (owner_checks models (cell row 0) (cell row 1) (cell row 4)) None ((λ h. CouplingBreaks.no-owner (owner-breaks h)) & target-breaks & nil)
      (λ kept. absurd (false≢true (sym bad ∙ complete shape owner ends kept))))))
