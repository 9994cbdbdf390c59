-- No row of a table that passes intake breaks a rule that a reason names: what `Breaks` says are rules. Assumes nothing.
use Prim.Native.Nat.{ℕ, zero, suc, ◌+◌, ◌≤◌, ◌<◌, ◌^◌}
use Rattle.std.specs.Prelude.{◌≡◌, Bool, true, false, ◌&&◌, if◌then◌else◌, Option, None, Some}
use Rattle.std.proofs.Common.{sym, ap, ◌∙◌, subst, ne_eqb, leb→le, eqb→eq}
use mathlib.Core.List.{List, [], ◌∷◌, map}
use Rattle.std.proofs.Math.Decide.{dec_le}
use native.Mathlib.Omega.{arith}
use Rattle.std.proofs.Math.ListN.{length, length-map}
use Rattle.std.proofs.Math.Dec.{T, leb, ltb, eqb, ltb→lt}
use Rattle.std.specs.Float.Ieee.Fits.{and_l}
use Rattle.rules.specs.Sizes.{is_port}
use Rattle.rules.specs.Base.{every, from, some_of}
use Rattle.rules.specs.Table as Table
use Rattle.rules.specs.Table.{Kind, Row, is_coupled, is_parent}
use Rattle.rules.specs.Intake.{passed, intake, is_coupled_id, is_component_of}
use Rattle.rules.specs.Layout.{rows_of, cell, model_width, connector_width, coupling_width, kind_in, model_row, coupling_in, lent}
use Rattle.rules.specs.Layout as Layout
use Rattle.rules.specs.Ends.{All, nil, ◌&◌, parts, no-some, if-both}
use Rattle.rules.specs.Decides.{Any, here, there, tells, Whole, RowKeeps, KindKeeps, Judged, intake-exactly, rows-first, connectors-first, couplings-first, ComponentOf, coupled-id-decides, component-decides}
use Rattle.table.specs.Readers.{row_of, kind_of}
use Rattle.table.specs.Rows.{count_of}
use Rattle.table.specs.Judging.{kind_or, input_in, output_in, inner_in, row_in, earlier_in, all_in, is_kind, cells_fit, row_fits, row_joins, row_keeps, connector_keeps, owner_fits, coupling_keeps}
use Rattle.table.specs.Refused.{line-is, posted-is, fine-read, before-is, row-passes, connector-passes, coupling-passes, some-rows}
use Rattle.reasons.specs.declared.Reason.{Reason}
use Rattle.reasons.specs.Breaks.{line_of, rows_in, rows_before, ModelBreaks, ConnectorBreaks, CouplingBreaks}

-- ---- ids and ports, and kinds that are none
port-at : (row : List ℕ) (c n : ℕ) → T (every (λ k. is_port (cell row k)) (from c n)) → (j : ℕ) → c ≤ j → j < c + n → cell row j < 2 ^ 16
port-at row c zero t j a b = absurd (omega arith)
port-at row c (suc n) t j a b =
    let z = if-both (is_port (cell row c)) (every (λ k. is_port (cell row k)) (from (suc c) n)) t in
    elim (dec_le (suc c) j) [
      | yes l ↦ port-at row (suc c) n z.1 j l (omega arith)
      | no l ↦ let e : j ≡ c = omega arith in rw e (ltb→lt (cell row c) (2 ^ 16) z.0)
    ]

no_kind : (row : List ℕ) → (1 ≤ cell row 1 → cell row 1 ≤ 4 → ⊥) → kind_in row ≡ None
no_kind row n =
    rw (ne_eqb (cell row 1) 1 (λ e. n (omega arith) (omega arith)), ne_eqb (cell row 1) 2 (λ e. n (omega arith) (omega arith)), ne_eqb (cell row 1) 3 (λ e. n (omega arith) (omega arith)), ne_eqb (cell row 1) 4 (λ e. n (omega arith) (omega arith)))

any-earlier : (P : Row → Type 0) (models : List ℕ) (k j : ℕ) → j < k → P (row_in models j) → Any P (earlier_in models k)
any-earlier P models zero j l h = absurd (omega arith)
any-earlier P models (suc k) j l h = elim (dec_le (suc j) k) [
  | yes m ↦ there (any-earlier P models k j m h)
  | no m ↦ let e : j ≡ k = omega arith in here (rw e at h)
]

-- ---- a model row that keeps its rules
module _ (models : List ℕ) (k : ℕ) (earlier : List Row) (before : earlier ≡ earlier_in models k) (fits : T (row_fits (row_of model_width models k)))
    (read : model_row (row_of model_width models k) ≡ Some (row_in models k)) (keeps : RowKeeps earlier (row_in models k)) where
  abbrev row : List ℕ
  row = row_of model_width models k

  own : (kind : Kind) → kind_in row ≡ Some kind → KindKeeps kind
  own kind e = subst (λ (o : Option Kind). KindKeeps (kind_or o)) e keeps.kind-keeps

  some-kind : kind_in row ≡ None → ⊥
  some-kind e = no-some (sym (ap (Layout.row_in row) e) ∙ read)

  model-keeps : {r : Option Reason} → ModelBreaks (row_of model_width models) earlier k r → ⊥
  unfolding row_fits cells_fit
  model-keeps b = go (parts (eqb (length row) model_width ∷ ltb (cell row 2) 8 ∷ cells_fit row 4 8 ∷ is_kind (kind_of (kind_in row)) ∷ []) fits) b
    where
      go : {r : Option Reason} → All T (eqb (length row) model_width ∷ ltb (cell row 2) 8 ∷ cells_fit row 4 8 ∷ is_kind (kind_of (kind_in row)) ∷ []) → ModelBreaks (row_of model_width models) earlier k r → ⊥
      go (w & g & p & t & nil) (ModelBreaks.cut_short n) = n (eqb→eq (length row) model_width w)
      go (w & g & p & t & nil) (ModelBreaks.unknown-kind n) = some-kind (no_kind row n)
      go (w & g & p & t & nil) (ModelBreaks.unknown-field l) = let m = ltb→lt (cell row 2) 8 g in omega arith
      go (w & g & p & t & nil) (ModelBreaks.wide-id l) = let m = keeps.id-width in omega arith
      go (w & g & p & t & nil) (ModelBreaks.wide-port {c = c} a b l) = let m = port-at row 4 4 p c a (omega arith) in omega arith
      go s (ModelBreaks.batch-of-none {b = b} e z) = let m = (own (Table.batcher b) e).1.1.0 in omega arith
      go s (ModelBreaks.large-batch {b = b} e l) = let m = (own (Table.batcher b) e).1.1.1.0 in omega arith
      go s (ModelBreaks.no-batch-time {b = b} e n) = n (own (Table.batcher b) e).1.1.1.1
      go s (ModelBreaks.unknown-metric e h) = some-kind (rw (e, h))
      go s (ModelBreaks.start-is-stop {w = w} e h) = (own (Table.stopwatch w) e).1.1.1.1.0 h
      go s (ModelBreaks.start-is-ask {w = w} e h) = (own (Table.stopwatch w) e).1.1.1.1.1.0 h
      go s (ModelBreaks.stop-is-ask {w = w} e h) = (own (Table.stopwatch w) e).1.1.1.1.1.1 h
      go s (ModelBreaks.id-taken {j = j} l e) = keeps.unique (rw before (any-earlier (λ (r : Row). r.id ≡ cell row 0) models k j l e))
      go s (ModelBreaks.no-parent {p = p} e n) = n (keeps.parent_is p e)
      go s (ModelBreaks.too-deep e l) = let m = keeps.depth (ap kind_or e) in omega arith

-- ---- a connector and a coupling that keep their rules
connector-keeps : (row : List ℕ) → T (connector_keeps row) → {r : Option Reason} → ConnectorBreaks row r → ⊥
unfolding connector_keeps cells_fit
connector-keeps row t b = go (parts (eqb (length row) connector_width ∷ cells_fit row 0 4 ∷ []) t) b
  where
    go : {r : Option Reason} → All T (eqb (length row) connector_width ∷ cells_fit row 0 4 ∷ []) → ConnectorBreaks row r → ⊥
    go (w & p & nil) (ConnectorBreaks.cut_short n) = n (eqb→eq (length row) connector_width w)
    go (w & p & nil) (ConnectorBreaks.wide {c = c} a l) = let m = port-at row 0 4 p c (omega arith) (omega arith) in omega arith

module _ (models row : List ℕ) (rows : List Row) (same : (test : Row → Bool) → some_of test rows ≡ some_of test (all_in models)) where
  -- the target of an external input
  target_keeps : (owner sp target tp unused : ℕ) → coupling_in row ≡ Some (Table.external_input owner sp target tp, unused)
      → T (if eqb (cell row 1) 1 then is_component_of (all_in models) (cell row 0) (cell row 4) else true) → ComponentOf rows owner target
  target_keeps owner sp target tp unused = go (eqb (cell row 1) 1) (eqb (cell row 1) 2) (eqb (cell row 1) 3)
    where
      first : Option (Table.Coupling × ℕ) → Table.Coupling
      first None = inner_in row
      first (Some (coupling, unused)) = coupling

      is : Bool → Bool → Bool → Option (Table.Coupling × ℕ)
      is a b d = if a then Some (input_in row, cell row 2) else if b then Some (output_in row, cell row 4) else if d then Some (inner_in row, 0) else None

      go : (a b d : Bool) → is a b d ≡ Some (Table.external_input owner sp target tp, unused)
          → T (if a then is_component_of (all_in models) (cell row 0) (cell row 4) else true) → ComponentOf rows owner target
      go true b d e t =
          let f : input_in row ≡ Table.external_input owner sp target tp = ap first e in
          let o : cell row 0 ≡ owner = cc in
          let g : cell row 4 ≡ target = cc in
          rw (← o, ← g) (tells (component-decides rows (cell row 0) (cell row 4)) (subst T (sym (same (λ r. eqb r.id (cell row 4) && is_parent (cell row 0) r.parent))) t))
      go false true d e t = absurd (let f : output_in row ≡ Table.external_input owner sp target tp = ap first e in let z : ◌≡◌ {A = ℕ} 0 1 = cc in omega arith)
      go false false true e t = absurd (let f : inner_in row ≡ Table.external_input owner sp target tp = ap first e in let z : ◌≡◌ {A = ℕ} 0 1 = cc in omega arith)
      go false false false e t = absurd (no-some e)

  coupling-keeps : T (coupling_keeps (all_in models) row) → {r : Option Reason} → CouplingBreaks rows row r → ⊥
  unfolding coupling_keeps owner_fits cells_fit
  coupling-keeps t b = go (parts (eqb (length row) coupling_width ∷ cells_fit row 0 1 ∷ cells_fit row 2 6 ∷ owner_fits (all_in models) (cell row 0) (cell row 1) (cell row 4) ∷ []) t) b
    where
      owned : T (owner_fits (all_in models) (cell row 0) (cell row 1) (cell row 4))
          → All T (leb 1 (cell row 1) ∷ leb (cell row 1) 3 ∷ is_coupled_id (all_in models) (cell row 0) ∷ (if eqb (cell row 1) 1 then is_component_of (all_in models) (cell row 0) (cell row 4) else true) ∷ [])
      owned = parts _

      with-owner : {r : Option Reason} → All T (leb 1 (cell row 1) ∷ leb (cell row 1) 3 ∷ is_coupled_id (all_in models) (cell row 0) ∷ (if eqb (cell row 1) 1 then is_component_of (all_in models) (cell row 0) (cell row 4) else true) ∷ [])
          → All T (eqb (length row) coupling_width ∷ cells_fit row 0 1 ∷ cells_fit row 2 6 ∷ []) → CouplingBreaks rows row r → ⊥
      with-owner s (w & o & p & nil) (CouplingBreaks.cut_short n) = n (eqb→eq (length row) coupling_width w)
      with-owner (a & b & o & t & nil) s (CouplingBreaks.unknown-kind n) = n (leb→le 1 (cell row 1) a) (leb→le (cell row 1) 3 b)
      with-owner s (w & o & p & nil) (CouplingBreaks.wide-owner l) = let m = port-at row 0 1 o 0 (omega arith) (omega arith) in omega arith
      with-owner s (w & o & p & nil) (CouplingBreaks.wide-end {c = c} a b l) = let m = port-at row 2 4 p c a (omega arith) in omega arith
      with-owner (a & b & o & t & nil) s (CouplingBreaks.no-owner n) = n (tells (coupled-id-decides rows (cell row 0)) (subst T (sym (same (λ r. eqb r.id (cell row 0) && is_coupled r.kind))) o))
      with-owner (a & b & o & t & nil) s (CouplingBreaks.no-component {owner = owner} {sp = sp} {target = target} {tp = tp} {unused = unused} e n) =
          n (target_keeps owner sp target tp unused e t)

      go : {r : Option Reason} → All T (eqb (length row) coupling_width ∷ cells_fit row 0 1 ∷ cells_fit row 2 6 ∷ owner_fits (all_in models) (cell row 0) (cell row 1) (cell row 4) ∷ []) → CouplingBreaks rows row r → ⊥
      go (w & o & p & f & nil) b = with-owner (owned f) (w & o & p & nil) b

-- ---- a table that passed
module _ (models connectors couplings : List ℕ) (t : Table.Table) (e : intake (lent models connectors couplings) ≡ passed t) where
  facts : Judged (lent models connectors couplings) (passed t)
  facts = (intake-exactly (lent models connectors couplings) (passed t)).0 e

  pub no-model-breaks : (k : ℕ) → k < count_of model_width models → {r : Option Reason} → ModelBreaks (line_of model_width models) (rows_before models k) k r → ⊥
  unfolding lent row_keeps
  no-model-breaks k l {r} b =
      let rows = map model_row (rows_of model_width models) in
      let long : length rows ≡ count_of model_width models = length-map (rows_of model_width models) model_row in
      let before = before-is models k (omega arith) (λ i m. facts.1 i (omega arith)) in
      let read = fine-read models (suc k) l (λ i m. facts.1 i (omega arith)) k (omega arith) in
      let kept = row-passes models ((rows-first (lent models connectors couplings)).0.1 facts.1) k l in
      model-keeps models k (rows_before models k) before (and_l (row_fits (row_of model_width models k)) (row_joins models k) (subst T (sym kept) tt)) read
      (subst (Whole (RowKeeps (rows_before models k))) (posted-is models k l ∙ read) (facts.1 k (omega arith)))
      (subst (λ (line : ℕ → List ℕ). ModelBreaks line (rows_before models k) k r) lines b)
    where
      lines : line_of model_width models ≡ row_of model_width models
      lines = λ i j. line-is model_width (omega arith) models j i

  pub no-connector-breaks : (k : ℕ) → k < count_of connector_width connectors → {r : Option Reason} → ConnectorBreaks (line_of connector_width connectors k) r → ⊥
  unfolding lent
  no-connector-breaks k l {r} b =
      connector-keeps (row_of connector_width connectors k)
      (subst T (sym (connector-passes models k connectors ((connectors-first (lent models connectors couplings)).0.1 facts.2) l)) tt)
      (subst (λ (row : List ℕ). ConnectorBreaks row r) (line-is connector_width (omega arith) connectors k) b)

  pub no-coupling-breaks : (k : ℕ) → k < count_of coupling_width couplings → {r : Option Reason} → CouplingBreaks (rows_in models) (line_of coupling_width couplings k) r → ⊥
  unfolding lent
  no-coupling-breaks k l {r} b =
      let all = (rows-first (lent models connectors couplings)).0.1 facts.1 in
      coupling-keeps models (row_of coupling_width couplings k) (rows_in models) (some-rows models all)
      (subst T (sym (coupling-passes models all couplings k ((couplings-first (lent models connectors couplings)).0.1 facts.3) l)) tt)
      (subst (λ (row : List ℕ). CouplingBreaks (rows_in models) row r) (line-is coupling_width (omega arith) couplings k) b)
