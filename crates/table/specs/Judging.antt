-- What the private functions of `table` answer: a row read whether it is whole or not, and the tests of a row, a connector and a coupling in the code's order. Definitions only. Assumes nothing.
use Rattle.std.specs.Prelude.{ℕ, zero, suc, ◌-◌, ◌/◌, Bool, true, not, ◌&&◌, List, [], ◌∷◌, length, leb, ltb, eqb, if◌then◌else◌, is_some, None, Some, Option}
use Rattle.std.specs.Float.{binary64}
use Rattle.std.specs.Float.Ieee.{of_bits}
use Rattle.rules.specs.declared.Metric.{Metric}
use Rattle.rules.specs.Sizes.{is_port, is_id}
use Rattle.rules.specs.Base.{every, some_of, hold, from}
use Rattle.rules.specs.Table as Table
use Rattle.rules.specs.Table.{is_parent}
use Rattle.rules.specs.Intake.{is_new, parent_fits, depth_fits, is_coupled_id, is_component_of}
use Rattle.rules.specs.Layout.{cell, is_given, parent_in, kind_in, metric_in, stopwatch_in, model_width, connector_width, coupling_width}
use Rattle.words.specs.Search.{first_from}
use Rattle.table.specs.declared.Part.{Part}
use Rattle.table.specs.declared.Part.TheVariants.{Models, Connectors, Couplings}
use Rattle.table.specs.declared.Kind.{Kind}
use Rattle.table.specs.Readers.{row_of, kind_of}
use Rattle.table.specs.Rows.{count_of}

-- ---- what the words of a row say of its kind
abbrev pub processor_of : ℕ → ℕ → ℕ → Table.Kind
processor_of input output capacity = Table.processor (record { input = input; output = output; queue_capacity = capacity })

abbrev pub batcher_of : ℕ → ℕ → ℕ → ℕ → Table.Kind
batcher_of input output size time = Table.batcher (record { input = input; output = output; max_batch_size = size; max_batch_time = of_bits binary64 time })

abbrev pub stopwatch_of : ℕ → ℕ → ℕ → ℕ → Metric → Table.Kind
stopwatch_of start stop ask output metric = Table.stopwatch (record { start = start; stop = stop; ask = ask; output = output; metric = metric })

-- word 8, if the field is given
abbrev pub setting_in : ℕ → ℕ → List ℕ → ℕ
setting_in field omitted row = if is_given field row then cell row 8 else omitted

unfoldable pub stopwatch_at : List ℕ → Option Table.Kind
stopwatch_at row = stopwatch_in row (metric_in row)

-- the port that a word says
abbrev pub port_of : ℕ → Option ℕ
port_of n = if is_port n then Some n else None

-- a metric, as the code has it
abbrev pub metric_of : Option Metric → Option Metric
metric_of None = None
metric_of (Some m) = Some m

abbrev pub is_kind : Option Kind → Bool
is_kind k = is_some k

abbrev pub option_of : Option ℕ → Option ℕ
option_of None = None
option_of (Some id) = Some id

-- ---- a coupling of each kind, as its words say
abbrev pub input_in : List ℕ → Table.Coupling
input_in row = Table.external_input (cell row 0) (cell row 3) (cell row 4) (cell row 5)

abbrev pub output_in : List ℕ → Table.Coupling
output_in row = Table.external_output (cell row 0) (cell row 2) (cell row 3) (cell row 5)

abbrev pub inner_in : List ℕ → Table.Coupling
inner_in row = Table.internal_coupling (cell row 0) (cell row 2) (cell row 3) (cell row 4) (cell row 5)

-- ---- a row as its words say, whole or not. A kind that is none of the four is no Coupled
abbrev pub kind_or : Option Table.Kind → Table.Kind
kind_or None = processor_of 0 0 0
kind_or (Some k) = k

abbrev pub read_row : List ℕ → Table.Row
read_row row = record { id = cell row 0; parent = parent_in row; kind = kind_or (kind_in row) }

-- the row k of the model rows
abbrev pub row_in : List ℕ → ℕ → Table.Row
row_in models k = read_row (row_of model_width models k)

-- the rows before the row k, the nearest first
abbrev pub earlier_in : List ℕ → ℕ → List Table.Row
earlier_in models zero = []
earlier_in models (suc k) = row_in models k ∷ earlier_in models k

-- all whole rows
abbrev pub all_in : List ℕ → List Table.Row
all_in models = earlier_in models (length models / model_width)

-- ---- tests
-- the cells from c to before e are ids or ports
unfoldable pub cells_fit : List ℕ → ℕ → ℕ → Bool
cells_fit row c e = every (λ k. is_port (cell row k)) (from c (e - c))

-- one of the first n rows has the id, and the value in its cell c
unfoldable pub has_row : List ℕ → ℕ → ℕ → ℕ → ℕ → Bool
has_row models n id c value = some_of (λ k. eqb (cell (row_of model_width models k) 0) id && eqb (cell (row_of model_width models k) c) value) (from 0 n)

-- what a model row keeps by itself
unfoldable pub row_fits : List ℕ → Bool
row_fits row = hold (eqb (length row) model_width ∷ ltb (cell row 2) 8 ∷ cells_fit row 4 8 ∷ is_kind (kind_of (kind_in row)) ∷ [])

-- what the row k keeps against the rows before it
unfoldable pub parent_joins : List ℕ → ℕ → Bool
parent_joins models k = parent_fits (earlier_in models k) (row_in models k).parent

unfoldable pub row_joins : List ℕ → ℕ → Bool
row_joins models k =
    hold (is_id (row_in models k).id ∷ is_new (earlier_in models k) (row_in models k).id ∷ parent_joins models k ∷ depth_fits (earlier_in models k) (row_in models k) ∷ [])

unfoldable pub row_keeps : List ℕ → ℕ → Bool
row_keeps models k = row_fits (row_of model_width models k) && row_joins models k

unfoldable pub connector_keeps : List ℕ → Bool
connector_keeps row = hold (eqb (length row) connector_width ∷ cells_fit row 0 4 ∷ [])

-- a row has this id and this parent
abbrev pub is_child : ℕ → ℕ → Table.Row → Bool
is_child owner target r = eqb r.id target && is_parent owner r.parent

-- what a coupling keeps against the rows
unfoldable pub owner_fits : List Table.Row → ℕ → ℕ → ℕ → Bool
owner_fits rows owner kind target =
    hold (leb 1 kind ∷ leb kind 3 ∷ is_coupled_id rows owner ∷ (if eqb kind 1 then is_component_of rows owner target else true) ∷ [])

unfoldable pub coupling_keeps : List Table.Row → List ℕ → Bool
coupling_keeps rows row =
    hold (eqb (length row) coupling_width ∷ cells_fit row 0 1 ∷ cells_fit row 2 6 ∷ owner_fits rows (cell row 0) (cell row 1) (cell row 4) ∷ [])

-- ---- the three parts of a table
abbrev pub width_of : Part → ℕ
width_of Models = model_width
width_of Connectors = connector_width
width_of Couplings = coupling_width

-- the row k of this part keeps its rules
unfoldable pub keeps_in : Part → List ℕ → List ℕ → ℕ → Bool
keeps_in Models models words k = row_keeps words k
keeps_in Connectors models words k = connector_keeps (row_of connector_width words k)
keeps_in Couplings models words k = coupling_keeps (all_in models) (row_of coupling_width words k)

-- the first row of this part that does not
abbrev pub first_bad_in : Part → List ℕ → List ℕ → Option ℕ
first_bad_in part models words = first_from (λ k. not (keeps_in part models words k)) 0 (count_of (width_of part) words)
