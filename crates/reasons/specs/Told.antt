-- Of any lent table: the row that intake's verdict names breaks the rule that is named, and one is named exactly where the table is refused. Assumes nothing.
use Prim.Native.Nat.{ℕ, ◌+◌, ◌*◌, ◌/◌, ◌≤◌, ◌<◌, ◌^◌}
use Rattle.std.specs.Prelude.{Option, ◌≡◌, refl, ◌↔◌, get_or, T, None, Some}
use Rattle.std.proofs.Common.{sym, subst, leb-true, leb-false}
use Rattle.std.proofs.Math.Logic.{inl, inr}
use mathlib.Core.List.{List}
use native.Mathlib.Omega.{arith}
use Rattle.std.proofs.Math.ListN.{length}
use Rattle.std.proofs.lemmas.List.{length-map}
use Rattle.rules.specs.Table.{Row}
use Rattle.rules.specs.Intake.{Verdict, too_large, bad_row, bad_connector, bad_coupling, passed, intake, is_passed}
use Rattle.rules.specs.Layout.{rows_of, model_width, connector_width, coupling_width, model_row, connector_row, coupling_row, lent}
use Rattle.rules.specs.Ends.{All, nil, ◌&◌}
use Rattle.rules.specs.Decides.{SizesKeep, either, at-most, rows-first, connectors-first, couplings-first, Judged, intake-exactly}
use Rattle.table.specs.Readers.{row_of}
use Rattle.table.specs.Rows.{count_of, row-begins, row-cell}
use Rattle.table.specs.Judging.{earlier_in}
use Rattle.table.specs.Refused.{line-is, bad-row, bad-connector, before-is, bad-coupling, some-rows}
use Rattle.reasons.specs.declared.Reason.{Reason}
use Rattle.reasons.specs.declared.Reason.TheVariants.{ManyCouplings}
use Rattle.reasons.specs.Reasons.{size_checks, size_reason, model_reason, connector_reason, coupling_reason, reason_for, reason_of}
use Rattle.reasons.specs.Breaks.{line_of, rows_in, ModelBreaks, ConnectorBreaks, CouplingBreaks, Breaks, many-models, many-connectors, many-couplings, model, connector, coupling, fine}
use Rattle.reasons.specs.CheckLaws.{Kept, named}
use Rattle.reasons.specs.Model.{model-told}
use Rattle.reasons.specs.Lines.{connector-told, coupling-told}

-- what is lent are words of 64 bits
abbrev pub AreWords : List ℕ → Type 0
AreWords words = (i : ℕ) → get_or words i 0 < 2 ^ 64

module _ (models connectors couplings : List ℕ) where
  -- ---- a size that is over
  sizes : count_of model_width models ≤ 64 → count_of connector_width connectors ≤ 256 → count_of coupling_width couplings ≤ 256 → SizesKeep (lent models connectors couplings)
  unfolding lent
  sizes a b d = (
    rw (length-map (rows_of model_width models) model_row) a,
    (rw (length-map (rows_of connector_width connectors) connector_row) b, rw (length-map (rows_of coupling_width couplings) coupling_row) d),
  )

  size-told : (SizesKeep (lent models connectors couplings) → ⊥) → Breaks models connectors couplings too_large (size_reason models connectors)
  unfolding size_reason
  size-told over =
      named (Breaks models connectors couplings too_large) (size_checks models connectors) (Some ManyCouplings)
      ((λ h. many-models (leb-false (count_of model_width models) 64 h)) & (λ h. many-connectors (leb-false (count_of connector_width connectors) 256 h)) & nil) last
    where
      last : All Kept (size_checks models connectors) → Breaks models connectors couplings too_large (Some ManyCouplings)
      last (a & b & nil) = elim (either (at-most (count_of coupling_width couplings) 256)) [
        | inl l ↦ absurd (over (sizes (leb-true (count_of model_width models) 64 a) (leb-true (count_of connector_width connectors) 256 b) l))
        | inr l ↦ let l : ¬ (count_of coupling_width couplings ≤ 256) = l in many-couplings (omega arith)
      ]

  -- ---- a row
  row_told : AreWords models → (k : ℕ) → Judged (lent models connectors couplings) (bad_row k) → Breaks models connectors couplings (bad_row k) (model_reason models k)
  unfolding lent
  row_told words k (small, (inside, before, bad)) =
      let here : k < count_of model_width models = rw (length-map (rows_of model_width models) model_row) at inside in
      let start = (row-begins model_width (omega arith) models k).0 here in
      let begins : k ≤ length models / 10 = omega arith in
      let told = model-told models k begins (rw (row-cell 10 models k 8 (omega arith)) (words (k * 10 + 8))) (bad-row models k (((rows-first (lent models connectors couplings)).1 k).1 (inside, before, bad))) in
      model
      (subst (λ (earlier : List Row). ModelBreaks (line_of model_width models) earlier k (model_reason models k)) (sym (before-is models k (omega arith) before))
      (subst (λ (line : ℕ → List ℕ). ModelBreaks line (earlier_in models k) k (model_reason models k)) (sym lines) told))
    where
      lines : line_of model_width models ≡ row_of model_width models
      lines = λ i j. line-is model_width (omega arith) models j i

  line-told : (k : ℕ) → Judged (lent models connectors couplings) (bad_connector k) → Breaks models connectors couplings (bad_connector k) (connector_reason (row_of connector_width connectors k))
  unfolding lent
  line-told k (small, rows, first) =
      connector
      (subst (λ (row : List ℕ). ConnectorBreaks row (connector_reason (row_of connector_width connectors k))) (sym (line-is connector_width (omega arith) connectors k))
      (connector-told (row_of connector_width connectors k) (bad-connector models k connectors (((connectors-first (lent models connectors couplings)).1 k).1 first))))

  owner-told : (k : ℕ) → Judged (lent models connectors couplings) (bad_coupling k) → Breaks models connectors couplings (bad_coupling k) (coupling_reason models (row_of coupling_width couplings k))
  unfolding lent
  owner-told k (small, rows, lines, first) =
      let all = (rows-first (lent models connectors couplings)).0.1 rows in
      coupling
      (subst (λ (row : List ℕ). CouplingBreaks (rows_in models) row (coupling_reason models (row_of coupling_width couplings k))) (sym (line-is coupling_width (omega arith) couplings k))
      (coupling-told models (row_of coupling_width couplings k) (rows_in models) (some-rows models all) (bad-coupling models all couplings k (((couplings-first (lent models connectors couplings)).1 k).1 first))))

  told : AreWords models → (v : Verdict) → Judged (lent models connectors couplings) v → Breaks models connectors couplings v (reason_for models connectors couplings v)
  told words too_large j = size-told j
  told words (bad_row k) j = row_told words k j
  told words (bad_connector k) j = line-told k j
  told words (bad_coupling k) j = owner-told k j
  told words (passed t) j = fine {t = t}

  -- ---- "a reason is never made up"
  pub never-made-up : AreWords models → Breaks models connectors couplings (intake (lent models connectors couplings)) (reason_of models connectors couplings)
  unfolding reason_of
  never-made-up words =
      let v = intake (lent models connectors couplings) in
      told words v ((intake-exactly (lent models connectors couplings) v).0 refl)

  -- ---- and there is always one
  no-model : {line : ℕ → List ℕ} {earlier : List Row} {k : ℕ} → ModelBreaks line earlier k None → ⊥
  no-model b = elim b [ ]

  no-connector : {row : List ℕ} → ConnectorBreaks row None → ⊥
  no-connector b = elim b [ ]

  no-coupling : {rows : List Row} {row : List ℕ} → CouplingBreaks rows row None → ⊥
  no-coupling b = elim b [ ]

  nothing-broken : (v : Verdict) → Breaks models connectors couplings v None → T (is_passed v)
  nothing-broken too_large b = elim b [ ]
  nothing-broken (bad_row k) (model b) = no-model b
  nothing-broken (bad_connector k) (connector b) = no-connector b
  nothing-broken (bad_coupling k) (coupling b) = no-coupling b
  nothing-broken (passed t) b = tt

  no-reason : (v : Verdict) → T (is_passed v) → reason_for models connectors couplings v ≡ None
  no-reason too_large t = absurd t
  no-reason (bad_row k) t = absurd t
  no-reason (bad_connector k) t = absurd t
  no-reason (bad_coupling k) t = absurd t
  no-reason (passed u) t = refl

  pub always-a-reason : AreWords models → (reason_of models connectors couplings ≡ None) ↔ T (is_passed (intake (lent models connectors couplings)))
  unfolding reason_of
  always-a-reason words =
      let v = intake (lent models connectors couplings) in (
        λ e. nothing-broken v (subst (λ (r : Option Reason). Breaks models connectors couplings v r) e (never-made-up words)),
        λ t. no-reason v t,
      )
