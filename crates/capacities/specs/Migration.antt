-- A7 of 02: "Stored tables that relied on the old reading .. get 2^64 - 1 written out." Definitions only. Assumes nothing.
use Rattle.std.specs.Prelude.{ℕ, ◌+◌, ◌-◌, ◌^◌, List, [], ◌∷◌, ◌++◌, map, set, eqb, if◌then◌else◌, Option, Some}
use Rattle.rules.specs.Table.{Kind, processor, Row}
use Rattle.rules.specs.Intake.{Posted}
use Rattle.rules.specs.Layout.{rows_of, cell, is_given, kind_in, row_in, omits_capacity, model_width, connector_width, coupling_width, connector_row, coupling_row}

abbrev pub without_end : ℕ
without_end = 2 ^ 64 - 1

-- ---- the old reading, 01 as it was before A7: "omitted, it is 2^64 - 1"
abbrev pub old_capacity_in : List ℕ → ℕ
old_capacity_in row = if is_given 2 row then cell row 8 else without_end

-- every other kind is read as ever
abbrev pub old_kind_in : List ℕ → Option Kind
old_kind_in row =
    if eqb (cell row 1) 1 then Some (processor (record { input = cell row 4; output = cell row 7; queue_capacity = old_capacity_in row })) else kind_in row

abbrev pub old_model_row : List ℕ → Option Row
old_model_row row = row_in row (old_kind_in row)

unfoldable pub old_lent : List ℕ → List ℕ → List ℕ → Posted
old_lent models connectors couplings =
    record { rows = map old_model_row (rows_of model_width models); connectors = map connector_row (rows_of connector_width connectors); couplings = map coupling_row (rows_of coupling_width couplings) }

-- ---- the migration: a row that omits the field gets its flag, and 2^64 - 1
abbrev pub amended : List ℕ → List ℕ
amended row = set (set row 2 (cell row 2 + 2)) 8 without_end

abbrev pub row_written_out : List ℕ → List ℕ
row_written_out row = if omits_capacity row then amended row else row

-- rows put together again
abbrev pub joined : List (List ℕ) → List ℕ
joined [] = []
joined (row ∷ rows) = row ++ joined rows

unfoldable pub written_out : List ℕ → List ℕ
written_out models = joined (map row_written_out (rows_of model_width models))
