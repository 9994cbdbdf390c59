-- docs/LAYOUT.md as definitions: from the lent words of a table to its rows, and from messages to the rows of an output. Definitions only. Assumes nothing.
use Rattle.std.specs.Prelude.{ℕ, zero, suc, ◌*◌, ◌/◌, ◌%◌, Bool, not, List, [], ◌∷◌, ◌++◌, map, length, get_or, take, drop, ltb, eqb, if◌then◌else◌, Option, None, Some}
use Rattle.std.specs.Float.{binary64}
use Rattle.std.specs.Float.Ieee.{of_bits, to_bits}
use Rattle.rules.specs.declared.Metric.{Metric}
use Rattle.rules.specs.declared.Metric.TheVariants.{Minimum, Maximum}
use Rattle.rules.specs.declared.Message.{Message}
use Rattle.rules.specs.Sizes.{is_id, is_port, omitted_capacity}
use Rattle.rules.specs.Base.{those, every, hold, is_empty}
use Rattle.rules.specs.Table.{Kind, processor, batcher, stopwatch, coupled, Row, Connector, Coupling, external_input, external_output, internal_coupling}
use Rattle.rules.specs.Intake.{Posted}

-- ---- a lent slice of words, cut into rows of `width` words; the last may be cut short
abbrev pub cut : ℕ → ℕ → List ℕ → List (List ℕ)
cut zero width words = []
cut (suc most) width words = if is_empty words then [] else take width words ∷ cut most width (drop width words)

abbrev pub rows_of : ℕ → List ℕ → List (List ℕ)
rows_of width words = cut (length words) width words

abbrev pub cell : List ℕ → ℕ → ℕ
cell row k = get_or row k 0

-- ---- a model row, of 10 words: id, kind, given, parent, ports in 1 to 3, port out, setting, batch time
abbrev pub model_width : ℕ
model_width = 10

-- word 2, "which optional fields are given: 1 parent, 2 queue_capacity, 4 metric, added up"
abbrev pub is_given : ℕ → List ℕ → Bool
is_given field row = eqb (cell row 2 / field % 2) 1

abbrev pub parent_in : List ℕ → Option ℕ
parent_in row = if is_given 1 row then Some (cell row 3) else None

-- A7 of 02: "Rows that omit `queue_capacity` now get 32"
abbrev pub capacity_in : List ℕ → ℕ
capacity_in row = if is_given 2 row then cell row 8 else omitted_capacity

-- "Metric defaults to Minimum."
abbrev pub metric_in : List ℕ → Option Metric
metric_in row =
    if is_given 4 row
    then (if eqb (cell row 8) 0 then Some Minimum else if eqb (cell row 8) 1 then Some Maximum else None)
    else Some Minimum

abbrev pub stopwatch_in : List ℕ → Option Metric → Option Kind
stopwatch_in row None = None
stopwatch_in row (Some metric) = Some (stopwatch (record { start = cell row 4; stop = cell row 5; ask = cell row 6; output = cell row 7; metric = metric }))

-- word 1, the kind: none where it "is none of the four, its metric neither of the two"
abbrev pub kind_in : List ℕ → Option Kind
kind_in row =
    if eqb (cell row 1) 1 then Some (processor (record { input = cell row 4; output = cell row 7; queue_capacity = capacity_in row }))
    else if eqb (cell row 1) 2 then Some (batcher (record { input = cell row 4; output = cell row 7; max_batch_size = cell row 8; max_batch_time = of_bits binary64 (cell row 9) }))
    else if eqb (cell row 1) 3 then stopwatch_in row (metric_in row)
    else if eqb (cell row 1) 4 then Some coupled else None

-- "Every id and port cell is below 2^16, used by the kind or not": those that the kind does not use
abbrev pub unused_ports : Kind → List ℕ → List ℕ
unused_ports (processor p) row = cell row 5 ∷ cell row 6 ∷ []
unused_ports (batcher b) row = cell row 5 ∷ cell row 6 ∷ []
unused_ports (stopwatch w) row = []
unused_ports coupled row = cell row 4 ∷ cell row 5 ∷ cell row 6 ∷ cell row 7 ∷ []

abbrev pub row_in : List ℕ → Option Kind → Option Row
row_in row None = None
row_in row (Some kind) =
    if hold (eqb (length row) model_width ∷ ltb (cell row 2) 8 ∷ every is_port (unused_ports kind row) ∷ [])
    then Some (record { id = cell row 0; parent = parent_in row; kind = kind })
    else None

abbrev pub model_row : List ℕ → Option Row
model_row row = row_in row (kind_in row)

-- ---- A7 of 02: "the intake reports how many rows omitted the field"
-- A Processor alone has the field. A row that is cut short, or says fields that there are none of, is no row to read.
abbrev pub omits_capacity : List ℕ → Bool
omits_capacity row = hold (eqb (length row) model_width ∷ eqb (cell row 1) 1 ∷ ltb (cell row 2) 8 ∷ not (is_given 2 row) ∷ [])

abbrev pub omitted_in : List ℕ → ℕ
omitted_in models = length (those omits_capacity (rows_of model_width models))

-- ---- a connector row, of 4 words: source id, source port, target id, target port
abbrev pub connector_width : ℕ
connector_width = 4

abbrev pub connector_row : List ℕ → Option Connector
connector_row row =
    if eqb (length row) connector_width
    then Some (record { source = cell row 0; source_port = cell row 1; target = cell row 2; target_port = cell row 3 })
    else None

-- ---- a coupling row, of 6 words: owner id, kind (1 external input, 2 external output, 3 internal), source id, source port, target id, target port
abbrev pub coupling_width : ℕ
coupling_width = 6

-- the coupling, and the id that its kind does not use
abbrev pub coupling_in : List ℕ → Option (Coupling × ℕ)
coupling_in row =
    if eqb (cell row 1) 1 then Some (external_input (cell row 0) (cell row 3) (cell row 4) (cell row 5), cell row 2)
    else if eqb (cell row 1) 2 then Some (external_output (cell row 0) (cell row 2) (cell row 3) (cell row 5), cell row 4)
    else if eqb (cell row 1) 3 then Some (internal_coupling (cell row 0) (cell row 2) (cell row 3) (cell row 4) (cell row 5), 0)
    else None

abbrev pub whole_coupling : List ℕ → Option (Coupling × ℕ) → Option Coupling
whole_coupling row None = None
whole_coupling row (Some (coupling, unused)) = if hold (eqb (length row) coupling_width ∷ is_id unused ∷ []) then Some coupling else None

abbrev pub coupling_row : List ℕ → Option Coupling
coupling_row row = whole_coupling row (coupling_in row)

-- ---- a table, as it is lent
unfoldable pub lent : List ℕ → List ℕ → List ℕ → Posted
lent models connectors couplings =
    record { rows = map model_row (rows_of model_width models); connectors = map connector_row (rows_of connector_width connectors); couplings = map coupling_row (rows_of coupling_width couplings) }

-- ---- "Written out, [a message] is one row of six u64 in that order, the time as its bits."
abbrev pub message_width : ℕ
message_width = 6

unfoldable pub written : Message → List ℕ
written m = m.source_id ∷ m.source_port ∷ m.target_id ∷ m.target_port ∷ to_bits binary64 m.time ∷ m.content ∷ []

abbrev pub written_all : List Message → List ℕ
written_all [] = []
written_all (m ∷ ms) = written m ++ written_all ms

-- the rows that a lent buffer has room for: "Words past a lent buffer's last whole row are neither read nor written."
abbrev pub room_in : List ℕ → ℕ
room_in buffer = length buffer / message_width

-- the buffer after rows were laid down: "all beyond stays as it was"
abbrev pub laid_down : List Message → List ℕ → List ℕ
laid_down rows buffer = written_all rows ++ drop (message_width * length rows) buffer
