-- What a row does to break each rule, in the words of the rules alone (rules/Layout, rules/Intake, rules/Decides). Definitions only. Assumes nothing.
use Rattle.std.specs.Prelude.{Option, ℕ, ◌≤◌, ◌<◌, ◌^◌, ◌≡◌, length, get_or, take, T, None, Some}
use mathlib.Core.List.{List, [], map, reverse_aux}
use Rattle.times.specs.Time.{is_time}
use Rattle.rules.specs.declared.Batcher.{Batcher}
use Rattle.rules.specs.declared.Stopwatch.{Stopwatch}
use Rattle.rules.specs.Sizes.{most_rows, most_connectors, most_couplings, deepest, largest_batch}
use Rattle.rules.specs.Table.{Row, Table, batcher, stopwatch, coupled, external_input}
use Rattle.rules.specs.Intake.{Verdict, too_large, bad_row, bad_connector, bad_coupling, passed, depth_of, whole}
use Rattle.rules.specs.Layout.{rows_of, cell, model_width, connector_width, coupling_width, parent_in, metric_in, kind_in, model_row, coupling_in}
use Rattle.rules.specs.Decides.{CoupledId, ComponentOf}
use Rattle.reasons.specs.declared.Reason.{Reason}
use Rattle.reasons.specs.declared.Reason.TheVariants.{ManyModels, ManyConnectors, ManyCouplings, ModelCutShort, UnknownKind, UnknownField, ModelWide, BatchOfNone, LargeBatch, NoBatchTime, UnknownMetric, StartIsStop, StartIsAsk, StopIsAsk, IdTaken, NoParent, TooDeep, ConnectorCutShort, ConnectorWide, CouplingCutShort, UnknownCoupling, CouplingWide, NoOwner, NoComponent}

-- the words of the row j, as the layout cuts them
abbrev pub line_of : ℕ → List ℕ → ℕ → List ℕ
line_of width words j = get_or (rows_of width words) j []

-- all rows, and those before the row k, the nearest first, as intake reads them
abbrev pub rows_in : List ℕ → List Row
rows_in models = whole (map model_row (rows_of model_width models))

abbrev pub rows_before : List ℕ → ℕ → List Row
rows_before models k = reverse_aux (whole (take k (map model_row (rows_of model_width models)))) []

-- "a field beyond its width": "Ids and ports are 16-bit numbers"
abbrev pub Wide : List ℕ → ℕ → Type 0
Wide row c = 2 ^ 16 ≤ cell row c

-- ---- 2: the row k of the models, with the words of each row, and the rows before it
pub data ModelBreaks (line : ℕ → List ℕ) (earlier : List Row) (k : ℕ) : Option Reason → Type 0 where
  -- "a row cut short"
  cut_short : (length (line k) ≡ model_width → ⊥) → ModelBreaks line earlier k (Some ModelCutShort)
  -- "its kind is none of the four"
  unknown-kind : (1 ≤ cell (line k) 1 → cell (line k) 1 ≤ 4 → ⊥) → ModelBreaks line earlier k (Some UnknownKind)
  -- word 2 names a field that there is none of
  unknown-field : 7 < cell (line k) 2 → ModelBreaks line earlier k (Some UnknownField)
  -- the id; and the ports, used by the kind or not
  wide-id : Wide (line k) 0 → ModelBreaks line earlier k (Some (ModelWide 0))
  wide-port : {c : ℕ} → 4 ≤ c → c ≤ 7 → Wide (line k) c → ModelBreaks line earlier k (Some (ModelWide c))
  -- "`max_batch_size` is 1 to 2^62", "its batch time is no time"
  batch-of-none : {b : Batcher} → kind_in (line k) ≡ Some (batcher b) → b.max_batch_size ≡ 0 → ModelBreaks line earlier k (Some BatchOfNone)
  large-batch : {b : Batcher} → kind_in (line k) ≡ Some (batcher b) → largest_batch < b.max_batch_size → ModelBreaks line earlier k (Some LargeBatch)
  no-batch-time : {b : Batcher} → kind_in (line k) ≡ Some (batcher b) → (T (is_time b.max_batch_time) → ⊥) → ModelBreaks line earlier k (Some NoBatchTime)
  -- "its metric neither of the two"
  unknown-metric : cell (line k) 1 ≡ 3 → metric_in (line k) ≡ None → ModelBreaks line earlier k (Some UnknownMetric)
  -- "A stopwatch's three input ports differ."
  start-is-stop : {w : Stopwatch} → kind_in (line k) ≡ Some (stopwatch w) → w.start ≡ w.stop → ModelBreaks line earlier k (Some StartIsStop)
  start-is-ask : {w : Stopwatch} → kind_in (line k) ≡ Some (stopwatch w) → w.start ≡ w.ask → ModelBreaks line earlier k (Some StartIsAsk)
  stop-is-ask : {w : Stopwatch} → kind_in (line k) ≡ Some (stopwatch w) → w.stop ≡ w.ask → ModelBreaks line earlier k (Some StopIsAsk)
  -- "Ids are unique over the whole table."
  id-taken : {j : ℕ} → j < k → cell (line j) 0 ≡ cell (line k) 0 → ModelBreaks line earlier k (Some (IdTaken j))
  -- "A component's row names its parent, which is an earlier row and a Coupled."
  no-parent : {p : ℕ} → parent_in (line k) ≡ Some p → (CoupledId earlier p → ⊥) → ModelBreaks line earlier k (Some NoParent)
  -- "A Coupled may hold another Coupled, to depth 4"
  too-deep : kind_in (line k) ≡ Some coupled → deepest < depth_of earlier (parent_in (line k)) → ModelBreaks line earlier k (Some TooDeep)

-- ---- 3: a connector, by its words
pub data ConnectorBreaks (row : List ℕ) : Option Reason → Type 0 where
  cut_short : (length row ≡ connector_width → ⊥) → ConnectorBreaks row (Some ConnectorCutShort)
  wide : {c : ℕ} → c < 4 → Wide row c → ConnectorBreaks row (Some (ConnectorWide c))

-- ---- 3: a coupling, by the rows and its words: 0 is the owner's id, 2 to 5 are ids and ports, used by the kind or not
pub data CouplingBreaks (rows : List Row) (row : List ℕ) : Option Reason → Type 0 where
  cut_short : (length row ≡ coupling_width → ⊥) → CouplingBreaks rows row (Some CouplingCutShort)
  unknown-kind : (1 ≤ cell row 1 → cell row 1 ≤ 3 → ⊥) → CouplingBreaks rows row (Some UnknownCoupling)
  wide-owner : Wide row 0 → CouplingBreaks rows row (Some (CouplingWide 0))
  wide-end : {c : ℕ} → 2 ≤ c → c ≤ 5 → Wide row c → CouplingBreaks rows row (Some (CouplingWide c))
  -- "a coupling's owner is no Coupled"
  no-owner : (CoupledId rows (cell row 0) → ⊥) → CouplingBreaks rows row (Some NoOwner)
  -- "an external input coupling's target is not its component"
  no-component : {owner sp target tp unused : ℕ} → coupling_in row ≡ Some (external_input owner sp target tp, unused) → (ComponentOf rows owner target → ⊥) → CouplingBreaks rows row (Some NoComponent)

-- ---- a table: the reason is broken by the row that the verdict names, or by the part that is too large
pub data Breaks (models connectors couplings : List ℕ) : Verdict → Option Reason → Type 0 where
  -- 1: "a table has too many rows, one cut short counted"
  many-models : most_rows < length (rows_of model_width models) → Breaks models connectors couplings too_large (Some ManyModels)
  many-connectors : most_connectors < length (rows_of connector_width connectors) → Breaks models connectors couplings too_large (Some ManyConnectors)
  many-couplings : most_couplings < length (rows_of coupling_width couplings) → Breaks models connectors couplings too_large (Some ManyCouplings)
  model : {k : ℕ} {r : Option Reason} → ModelBreaks (line_of model_width models) (rows_before models k) k r → Breaks models connectors couplings (bad_row k) r
  connector : {k : ℕ} {r : Option Reason} → ConnectorBreaks (line_of connector_width connectors k) r → Breaks models connectors couplings (bad_connector k) r
  coupling : {k : ℕ} {r : Option Reason} → CouplingBreaks (rows_in models) (line_of coupling_width couplings k) r → Breaks models connectors couplings (bad_coupling k) r
  -- nothing is broken exactly where the table passes
  fine : {t : Table} → Breaks models connectors couplings (passed t) None
