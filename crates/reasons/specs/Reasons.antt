-- Why a table is refused. The rules that a row can break are looked at in the order in which a person does: whether it is whole, its kind, its fields, ids and ports, what is the kind's own, whether the id is taken, the parent, the depth. Definitions only. Assumes nothing.
use Rattle.std.specs.Prelude.{ℕ, ◌/◌, Bool, true, not, List, [], ◌∷◌, length, leb, ltb, eqb, if◌then◌else◌, None, Some, Option}
use Rattle.std.specs.Float.{binary64}
use Rattle.std.specs.Float.Ieee.{of_bits}
use Rattle.times.specs.Time.{is_time}
use Rattle.rules.specs.Sizes.{most_rows, most_connectors, deepest, largest_batch}
use Rattle.rules.specs.Intake.{Verdict, too_large, bad_row, bad_connector, bad_coupling, passed, intake, is_component_of}
use Rattle.rules.specs.Layout.{cell, parent_in, model_width, connector_width, coupling_width, lent}
use Rattle.words.specs.Search.{next_row}
use Rattle.words.specs.SearchLaws.{is_found}
use Rattle.table.specs.Readers.{row_of, id_in, depth_in}
use Rattle.table.specs.Rows.{count_of}
use Rattle.table.specs.Judging.{setting_in, all_in}
use Rattle.table.specs.Searched.{id_and}
use Rattle.reasons.specs.declared.Reason.{Reason}
use Rattle.reasons.specs.declared.Reason.TheVariants.{ManyModels, ManyConnectors, ManyCouplings, ModelCutShort, UnknownKind, UnknownField, ModelWide, BatchOfNone, LargeBatch, NoBatchTime, UnknownMetric, StartIsStop, StartIsAsk, StopIsAsk, IdTaken, NoParent, TooDeep, ConnectorCutShort, ConnectorWide, CouplingCutShort, UnknownCoupling, CouplingWide, NoOwner, NoComponent}
use Rattle.reasons.specs.Checks.{Check, ◌or◌, first_broken, widths}

-- ---- a size that is over
abbrev pub size_checks : List ℕ → List ℕ → List Check
size_checks models connectors = leb (count_of model_width models) most_rows or ManyModels ∷ leb (count_of connector_width connectors) most_connectors or ManyConnectors ∷ []

unfoldable pub size_reason : List ℕ → List ℕ → Option Reason
size_reason models connectors = first_broken (size_checks models connectors) (Some ManyCouplings)

-- ---- a model row against the rows before it
-- the row before the row k that has this id
abbrev pub taken_by : List ℕ → ℕ → ℕ → Option ℕ
taken_by models k id = next_row (id_and id 0 id) model_width 0 k models

abbrev pub place_in : Option ℕ → ℕ
place_in (Some j) = j
place_in None = 0

-- one of the first n rows has the id, and is a Coupled (word 1 is 4)
abbrev pub coupled_before : List ℕ → ℕ → ℕ → Bool
coupled_before models n id = is_found (next_row (id_and id 1 4) model_width 0 n models)

abbrev pub parent_stands : List ℕ → ℕ → Option ℕ → Bool
parent_stands models k None = true
parent_stands models k (Some id) = coupled_before models k id

abbrev pub depth_kept : List ℕ → ℕ → Bool
depth_kept models k = if eqb (cell (row_of model_width models k) 1) 4 then leb (depth_in models k) deepest else true

abbrev pub depth_checks : List ℕ → ℕ → List Check
depth_checks models k = depth_kept models k or TooDeep ∷ []

unfoldable pub depth_reason : List ℕ → ℕ → Option Reason
depth_reason models k = first_broken (depth_checks models k) None

abbrev pub place_checks : List ℕ → ℕ → List Check
place_checks models k = parent_stands models k (parent_in (row_of model_width models k)) or NoParent ∷ []

unfoldable pub place_reason : List ℕ → ℕ → Option Reason
place_reason models k = first_broken (place_checks models k) (depth_reason models k)

abbrev pub id_checks : List ℕ → ℕ → List Check
id_checks models k = let taken = taken_by models k (id_in models k) in not (is_found taken) or IdTaken (place_in taken) ∷ []

unfoldable pub join_reason : List ℕ → ℕ → Option Reason
join_reason models k = first_broken (id_checks models k) (place_reason models k)

-- ---- what is the kind's own
abbrev pub batcher_checks : ℕ → ℕ → List Check
batcher_checks size bits = leb 1 size or BatchOfNone ∷ leb size largest_batch or LargeBatch ∷ is_time (of_bits binary64 bits) or NoBatchTime ∷ []

unfoldable pub batcher_reason : List ℕ → ℕ → ℕ → ℕ → Option Reason
batcher_reason models k size bits = first_broken (batcher_checks size bits) (join_reason models k)

abbrev pub metric_checks : List ℕ → List Check
metric_checks row = leb (setting_in 4 0 row) 1 or UnknownMetric ∷ []

-- words 4 to 6: start, stop, ask
abbrev pub differ_checks : List ℕ → List Check
differ_checks row =
    not (eqb (cell row 4) (cell row 5)) or StartIsStop ∷ not (eqb (cell row 4) (cell row 6)) or StartIsAsk
    ∷ not (eqb (cell row 5) (cell row 6)) or StopIsAsk ∷ []

unfoldable pub stopwatch_reason : List ℕ → ℕ → List ℕ → Option Reason
stopwatch_reason models k row = first_broken (metric_checks row) (first_broken (differ_checks row) (join_reason models k))

unfoldable pub kind_reason : List ℕ → ℕ → List ℕ → Option Reason
kind_reason models k row =
    if eqb (cell row 1) 2 then batcher_reason models k (cell row 8) (cell row 9)
    else if eqb (cell row 1) 3 then stopwatch_reason models k row else join_reason models k

-- ---- a model row: its shape, then its id (word 0) and its ports (words 4 to 7)
unfoldable pub port_reason : List ℕ → ℕ → List ℕ → Option Reason
port_reason models k row = first_broken (widths ModelWide row 0 1) (first_broken (widths ModelWide row 4 4) (kind_reason models k row))

abbrev pub shape_checks : List ℕ → List Check
shape_checks row =
    eqb (length row) model_width or ModelCutShort ∷ leb 1 (cell row 1) or UnknownKind ∷ leb (cell row 1) 4 or UnknownKind
    ∷ ltb (cell row 2) 8 or UnknownField ∷ []

unfoldable pub model_reason : List ℕ → ℕ → Option Reason
model_reason models k = let row = row_of model_width models k in first_broken (shape_checks row) (port_reason models k row)

-- ---- a connector
abbrev pub connector_checks : List ℕ → List Check
connector_checks row = eqb (length row) connector_width or ConnectorCutShort ∷ widths ConnectorWide row 0 4

unfoldable pub connector_reason : List ℕ → Option Reason
connector_reason row = first_broken (connector_checks row) None

-- ---- a coupling: its shape, then its ids and ports (words 0 and 2 to 5), then its owner, then an external input's target
abbrev pub owner_checks : List ℕ → ℕ → ℕ → ℕ → List Check
owner_checks models owner kind target =
    coupled_before models (length models / model_width) owner or NoOwner
    ∷ (if eqb kind 1 then is_component_of (all_in models) owner target else true) or NoComponent ∷ []

unfoldable pub owner_reason : List ℕ → ℕ → ℕ → ℕ → Option Reason
owner_reason models owner kind target = first_broken (owner_checks models owner kind target) None

unfoldable pub end_reason : List ℕ → List ℕ → Option Reason
end_reason models row =
    first_broken (widths CouplingWide row 0 1) (first_broken (widths CouplingWide row 2 4) (owner_reason models (cell row 0) (cell row 1) (cell row 4)))

abbrev pub coupling_checks : List ℕ → List Check
coupling_checks row = eqb (length row) coupling_width or CouplingCutShort ∷ leb 1 (cell row 1) or UnknownCoupling ∷ leb (cell row 1) 3 or UnknownCoupling ∷ []

unfoldable pub coupling_reason : List ℕ → List ℕ → Option Reason
coupling_reason models row = first_broken (coupling_checks row) (end_reason models row)

-- ---- a table: the reason of intake's verdict
abbrev pub reason_for : List ℕ → List ℕ → List ℕ → Verdict → Option Reason
reason_for models connectors couplings too_large = size_reason models connectors
reason_for models connectors couplings (bad_row k) = model_reason models k
reason_for models connectors couplings (bad_connector k) = connector_reason (row_of connector_width connectors k)
reason_for models connectors couplings (bad_coupling k) = coupling_reason models (row_of coupling_width couplings k)
reason_for models connectors couplings (passed t) = None

unfoldable pub reason_of : List ℕ → List ℕ → List ℕ → Option Reason
reason_of models connectors couplings = reason_for models connectors couplings (intake (lent models connectors couplings))
